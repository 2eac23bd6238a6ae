-- How the table holds the classes of the paper, and what its rows are.
use Rattle.std.specs.Prelude.{ℕ, ◌+◌, ◌*◌, ◌/◌, ◌%◌, ◌^◌, ◌<◌, ◌≡◌, List, [], ◌∷◌, length, get_or}
use Rattle.utf8.specs.declared.lead_bytes.Class as ours
use Rattle.utf8.specs.declared.lead_bytes.Class.TheVariants.{NoLead, Ascii, LeadE0, ThreeBytes, LeadEd, LeadF0, FourBytes, LeadF4, TwoBytes}
use Rattle.paper.specs.LeadBytes.{Class, no_lead, ascii, two_bytes, lead_e0, three_bytes, lead_ed, lead_f0, four_bytes, lead_f4, class_of}

-- the number that stands for a class in the table; the highest is that of most letters that are not ASCII
abbrev pub number : Class → ℕ
number no_lead = 0
number ascii = 1
number lead_e0 = 2
number three_bytes = 3
number lead_ed = 4
number lead_f0 = 5
number four_bytes = 6
number lead_f4 = 7
number two_bytes = 8

-- the class that a number stands for
abbrev pub numbered : ℕ → Class
numbered n = get_or (no_lead ∷ ascii ∷ lead_e0 ∷ three_bytes ∷ lead_ed ∷ lead_f0 ∷ four_bytes ∷ lead_f4 ∷ two_bytes ∷ []) n no_lead

-- the paper's class that one of ours is
abbrev pub seen : ours.Class → Class
seen NoLead = no_lead
seen Ascii = ascii
seen LeadE0 = lead_e0
seen ThreeBytes = three_bytes
seen LeadEd = lead_ed
seen LeadF0 = lead_f0
seen FourBytes = four_bytes
seen LeadF4 = lead_f4
seen TwoBytes = two_bytes

-- the entry in column c of a row of sixteen: the digit that has c digits, of four bits each, to its right
abbrev pub entry : ℕ → ℕ → ℕ
entry row c = row / 2 ^ (4 * c) % 16

-- the rule of the table: each entry of a row is the number of its lead byte's class
pub record RowRight (high row : ℕ) : Type 0 where
  pub entries : (c : ℕ) → c < 16 → entry row c ≡ number (class_of (16 * high + c))

-- s begins with a lead byte of the class k
pub record Begins (k : Class) (s : List ℕ) : Type 0 where
  pub some : 0 < length s
  pub is : k ≡ class_of (get_or s 0 0)
