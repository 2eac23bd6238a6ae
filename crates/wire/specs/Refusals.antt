-- The number of each refusal in the paper's table, and what it carries.
use Rattle.paper.specs.Answer as paper
use Rattle.paper.specs.Answer.{too_short, wrong_format, unknown_mode, unknown_sub_function, no_trouble_code, bad_width, no_room, unequal_sizes, left_over, cut, out_of_range, too_many, not_allowed, wrong_counter, unknown_service, no_such_code, repeated, bad_character}
use Rattle.wire.specs.declared.refusal.Refusal.{Refusal}
use Rattle.wire.specs.declared.refusal.Refusal.TheVariants.{TooShort, WrongFormat, UnknownMode, UnknownSubFunction, NoTroubleCode, BadWidth, NoRoom, UnequalSizes, LeftOver, Cut, OutOfRange, TooMany, NotAllowed, WrongCounter, UnknownService, NoSuchCode, Repeated, BadCharacter}

abbrev pub row : Refusal → paper.Refusal
row (TooShort needed available) = too_short needed available
row (WrongFormat good) = wrong_format good
row (UnknownMode b) = unknown_mode b
row (UnknownSubFunction b) = unknown_sub_function b
row (NoTroubleCode n) = no_trouble_code n
row (BadWidth w) = bad_width w
row (NoRoom needed room) = no_room needed room
row UnequalSizes = unequal_sizes
row (LeftOver n) = left_over n
row Cut = cut
row (OutOfRange place) = out_of_range place
row TooMany = too_many
row (NotAllowed place) = not_allowed place
row (WrongCounter place) = wrong_counter place
row (UnknownService place) = unknown_service place
row NoSuchCode = no_such_code
row (Repeated place) = repeated place
row (BadCharacter place) = bad_character place
