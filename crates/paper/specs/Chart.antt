-- Document 02, Req 01, drawn: what the program `wrong_loads_chart` prints of the year's records, an SVG in ASCII. It is ours: the request asks for the
-- table alone. A bar's height is the refused share, in whole units from the base line up, 430 of them to the top of the scale. Its parts are stacked by
-- refusal number, each from the height of the counts before it to the height of the counts with it, so that they leave no gap.
use Rattle.std.specs.Prelude.{ℕ, zero, suc, ◌+◌, ◌-◌, ◌*◌, ◌/◌, ◌%◌, Bool, true, false, List, [], ◌∷◌, ◌++◌, map, length, take, drop, get_or, leb, eqb}
use Rattle.paper.specs.Choice.{pick}
use Rattle.paper.specs.Answer.{Answer, accepted, refused}
use Rattle.paper.specs.ReadingProgram.{ascii}
use Rattle.paper.specs.Form.{filled_in}
use Rattle.paper.specs.Tally.{sum, tallied}
use Rattle.paper.specs.WrongLoads.{all, refused_of, percent}

-- ---- the frame
unfoldable pub opening : List ℕ
opening = ascii "<svg xmlns='http://www.w3.org/2000/svg' viewBox='0 0 1120 700' width='1120' height='700' font-family='DejaVu Sans, Arial, sans-serif' font-size='15' fill='#111'>\n<rect width='100%' height='100%' fill='#fff'/>\n"

unfoldable pub closing : List ℕ
closing = ascii "</svg>\n"

-- the records of the year from a refusal number on
unfoldable pub of_year : (first : ℕ) → List (List ℕ) → ℕ
of_year first t = sum (map (λ (row : List ℕ). sum (drop first row)) t)

-- the heading, with all records of the year and all refused ones
unfoldable pub heading : List (List ℕ) → List ℕ
heading t =
    filled_in (ascii "<text x='90' y='48' font-size='26' font-weight='bold'>Refused messages by month</text>\n<text x='90' y='76'>_ records, _ refused; of each hundred, in whole numbers, rounded down</text>\n")
    (of_year 0 t ∷ of_year 1 t ∷ [])

-- what the refusal numbers 1 to 9 are filled with: black, grey, lines in four directions, two sorts of crossed lines and dots, told apart without their colours
unfoldable pub plain : List ℕ
plain = ascii "<defs>\n<pattern id='p1' width='8' height='8' patternUnits='userSpaceOnUse'><rect width='8' height='8' fill='#1b1b1b'/></pattern>\n<pattern id='p2' width='8' height='8' patternUnits='userSpaceOnUse'><rect width='8' height='8' fill='#8a8a8a'/></pattern>\n"

unfoldable pub slanted : List ℕ
slanted = ascii "<pattern id='p3' width='8' height='8' patternUnits='userSpaceOnUse'><rect width='8' height='8' fill='#fff'/><path d='M-2,10L10,-2M-2,2L2,-2M6,10L10,6' stroke='#111' stroke-width='2'/></pattern>\n<pattern id='p4' width='8' height='8' patternUnits='userSpaceOnUse'><rect width='8' height='8' fill='#bfe3f7'/><path d='M-2,-2L10,10M-2,6L2,10M6,-2L10,2' stroke='#111' stroke-width='2'/></pattern>\n"

unfoldable pub straight : List ℕ
straight = ascii "<pattern id='p5' width='8' height='8' patternUnits='userSpaceOnUse'><rect width='8' height='8' fill='#f4d35e'/><path d='M0,4H8' stroke='#111' stroke-width='2'/></pattern>\n<pattern id='p6' width='8' height='8' patternUnits='userSpaceOnUse'><rect width='8' height='8' fill='#f7b27a'/><path d='M4,0V8' stroke='#111' stroke-width='2'/></pattern>\n<pattern id='p7' width='8' height='8' patternUnits='userSpaceOnUse'><rect width='8' height='8' fill='#c7e9c0'/><path d='M0,4H8M4,0V8' stroke='#111' stroke-width='1'/></pattern>\n"

unfoldable pub dotted : List ℕ
dotted = ascii "<pattern id='p8' width='8' height='8' patternUnits='userSpaceOnUse'><rect width='8' height='8' fill='#e9b8d3'/><circle cx='4' cy='4' r='2'/></pattern>\n<pattern id='p9' width='8' height='8' patternUnits='userSpaceOnUse'><rect width='8' height='8' fill='#fff'/><path d='M-2,10L10,-2M-2,2L2,-2M6,10L10,6M-2,-2L10,10M-2,6L2,10M6,-2L10,2' stroke='#111' stroke-width='1'/></pattern>\n</defs>\n"

unfoldable pub patterns : List ℕ
patterns = plain ++ (slanted ++ (straight ++ dotted))

-- the axes, and what the scale counts
unfoldable pub axes : List ℕ
axes = ascii "<text x='30' y='96'>of 100</text>\n<path d='M90,110V540H990' fill='none' stroke='#111' stroke-width='1.5'/>\n"

-- a year without any record says so
unfoldable pub empty_note : List (List ℕ) → List ℕ
empty_note t = pick (eqb (of_year 0 t) 0) (ascii "<text x='540' y='330' text-anchor='middle' font-size='20' fill='#777'>no records in this year</text>\n") []

-- ---- the scale
-- no month has more than `top` refused of a hundred
unfoldable pub fits : (top : ℕ) → List (List ℕ) → Bool
fits top [] = true
fits top (row ∷ others) = pick (leb (100 * refused_of row) (top * all row)) (fits top others) false

-- the least of these tops that fits the year
unfoldable pub top_of : List (List ℕ) → ℕ
top_of t = pick (fits 1 t) 1 (pick (fits 2 t) 2 (pick (fits 5 t) 5 (pick (fits 10 t) 10 (pick (fits 20 t) 20 (pick (fits 50 t) 50 100)))))

-- it is divided into five, or, below that, into as many parts as it has numbers
unfoldable pub divisions : (top : ℕ) → ℕ
divisions top = pick (leb top 5) top 5

-- the line of the scale after k of these parts, with its number
unfoldable pub scale_line : (top parts k : ℕ) → List ℕ
scale_line top parts k =
    filled_in (ascii "<path d='M90,_H990' stroke='#ddd'/><text x='80' y='_' text-anchor='end'>_</text>\n") ((540 - 430 * k / parts) ∷ (545 - 430 * k / parts) ∷ (k * top / parts) ∷ [])

-- n lines, from that one on
unfoldable pub scale_from : (top parts k n : ℕ) → List ℕ
scale_from top parts k zero = []
scale_from top parts k (suc n) = scale_line top parts k ++ scale_from top parts (suc k) n

unfoldable pub scale : (top : ℕ) → List ℕ
scale top = scale_from top (divisions top) 0 (suc (divisions top))

-- ---- a month, which is counted from 0 here; its row of the table
-- the height of so many of all its records
unfoldable pub height : (top all count : ℕ) → ℕ
height top a c = 43000 * c / (top * a)

-- the part of a refusal number that has `count` records, over `below` records of smaller numbers; one without records has none
unfoldable pub part : (month top all number below count : ℕ) → List ℕ
part m top a number below count =
    pick (eqb count 0) []
    (filled_in (ascii "<rect x='_' y='_' width='51' height='_' fill='url(#p_)' stroke='#111'/>\n")
    ((102 + 75 * m) ∷ (540 - height top a (below + count)) ∷ (height top a (below + count) - height top a below) ∷ number ∷ []))

-- the parts of these counts, of a refusal number and the numbers after it
unfoldable pub parts_from : (month top all number below : ℕ) → List ℕ → List ℕ
parts_from m top a number below [] = []
parts_from m top a number below (count ∷ others) = part m top a number below count ++ parts_from m top a (suc number) (below + count) others

-- its name below the bar
unfoldable pub name_of : (month : ℕ) → List ℕ
name_of m =
    filled_in (ascii "<text x='_' y='564' text-anchor='middle' font-weight='bold'>") ((127 + 75 * m) ∷ [])
    ++ (take 3 (drop (3 * m) (ascii "JanFebMarAprMayJunJulAugSepOctNovDec")) ++ ascii "</text>\n")

-- of a hundred, above the bar; and `refused of all`, below the name
unfoldable pub figures : (month top : ℕ) → (row : List ℕ) → List ℕ
figures m top row =
    filled_in (ascii "<text x='_' y='_' text-anchor='middle' font-weight='bold'>_</text>\n<text x='_' y='584' text-anchor='middle' font-size='11'>_ of _</text>\n")
    ((127 + 75 * m) ∷ (532 - height top (all row) (refused_of row)) ∷ percent row ∷ (127 + 75 * m) ∷ refused_of row ∷ all row ∷ [])

-- a month without records says so
unfoldable pub no_records : (month : ℕ) → List ℕ
no_records m = filled_in (ascii "<text x='_' y='584' text-anchor='middle' font-size='11' fill='#777'>no records</text>\n") ((127 + 75 * m) ∷ [])

unfoldable pub month_drawn : (month top : ℕ) → (row : List ℕ) → List ℕ
month_drawn m top row = name_of m ++ pick (eqb (all row) 0) (no_records m) (parts_from m top (all row) 1 0 (drop 1 row) ++ figures m top row)

-- the months of a table whose first row is of this one
unfoldable pub months_from : (top month : ℕ) → List (List ℕ) → List ℕ
months_from top m [] = []
months_from top m (row ∷ others) = month_drawn m top row ++ months_from top (suc m) others

-- ---- the legend
-- some month has records with this refusal number
unfoldable pub occurs : (number : ℕ) → List (List ℕ) → Bool
occurs number [] = false
occurs number (row ∷ others) = pick (eqb (get_or row number 0) 0) (occurs number others) true

-- what the numbers mean, from 0 on
unfoldable pub words : (number : ℕ) → List ℕ
words number =
    get_or
    ([] ∷ ascii "too short" ∷ ascii "wrong format" ∷ ascii "unknown mode" ∷ ascii "unknown sub-function" ∷ ascii "no trouble code" ∷ ascii "bad width" ∷ ascii "no room" ∷ ascii "unequal sizes" ∷ ascii "bytes left over" ∷ [])
    number []

-- the entry of a number, at a place of the legend: four to a row
unfoldable pub entry : (place number : ℕ) → List ℕ
entry place number =
    filled_in (ascii "<rect x='_' y='_' width='22' height='16' fill='url(#p_)' stroke='#111'/><text x='_' y='_'>_ ")
    ((90 + 235 * (place % 4)) ∷ (610 + 28 * (place / 4)) ∷ number ∷ (120 + 235 * (place % 4)) ∷ (623 + 28 * (place / 4)) ∷ number ∷ [])
    ++ (words number ++ ascii "</text>\n")

-- the entries of those that occur, of n numbers from this one on
unfoldable pub legend_from : List (List ℕ) → (place number n : ℕ) → List ℕ
legend_from t place number zero = []
legend_from t place number (suc n) = pick (occurs number t) (entry place number ++ legend_from t (suc place) (suc number) n) (legend_from t place (suc number) n)

-- ---- the picture
unfoldable pub chart : List (List ℕ) → List ℕ
chart t =
    opening
    ++ (heading t
    ++ (patterns
    ++ (scale (top_of t)
    ++ (months_from (top_of t) 0 t
    ++ (axes
    ++ (empty_note t
    ++ (legend_from t 0 1 9
    ++ closing)))))))

-- of a year that is refused, or too long, the picture has the words alone, so that it opens all the same
unfoldable pub chart_for : Answer (List (List ℕ)) → List ℕ
chart_for (accepted t) = chart t
chart_for (refused r) = opening ++ (filled_in (ascii "<text x='90' y='48' font-size='26'>refused _ _ _</text>\n") (r.number ∷ r.first ∷ r.second ∷ []) ++ closing)

unfoldable pub too_long_drawn : List ℕ
too_long_drawn = opening ++ (ascii "<text x='90' y='48' font-size='26'>too long</text>\n" ++ closing)

-- above 65,536 bytes it says `too long`; else it draws the table of the records
unfoldable pub chart_text : List ℕ → List ℕ
chart_text s = pick (leb (length s) 65536) (chart_for (tallied s)) too_long_drawn
