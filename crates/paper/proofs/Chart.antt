-- The picture of the year: the parts of a bar stay within the scale and leave no gap; and what is drawn of some inputs, by computing the definitions.
-- Assumes nothing.
use Prim.Native.Nat.{ℕ, ◌+◌, ◌-◌, ◌*◌, ◌/◌, ◌≤◌, ◌<◌}
use Prim.Native.String.{String}
use mathlib.Core.Path.{◌≡◌, refl}
use mathlib.Core.Bool.{true, false}
use mathlib.Core.List.{List, [], ◌∷◌, ◌++◌, map}
use native.Mathlib.Nat.{mul-div-le, le-div_iff_mul-le, div-le_of_le-mul}
use native.Mathlib.Omega.{arith}
use lib.ListN.{replicate}
use Rattle.paper.specs.Bytes.{of_bytes}
use Rattle.paper.specs.Utf8.{in_range}
use Rattle.paper.specs.ReadingProgram.{decimal_in, decimal, ascii}
use Rattle.paper.specs.Form.{filled_in}
use Rattle.paper.specs.Tally.{entries, records, in_ranges, all_good, tallied, sum}
use Rattle.paper.specs.Chart.{opening, closing, of_year, heading, plain, slanted, straight, dotted, patterns, axes, empty_note, fits, top_of, divisions, scale_line, scale_from, scale, height, part, parts_from, name_of, figures, no_records, month_drawn, months_from, occurs, words, entry, legend_from, chart, chart_for, too_long_drawn, chart_text}

-- ---- heights
-- more of the same number are no fewer when divided
no_fewer : (k x y : ℕ) → 0 < k → x ≤ y → x / k ≤ y / k
no_fewer k x y pos h = (le-div_iff_mul-le pos).1 (omega (arith, mul-div-le x k))

module _ (top a : ℕ) (some : 0 < top * a) where
  -- a bar with more records is no lower
  pub no_lower : (c d : ℕ) → c ≤ d → height top a c ≤ height top a d
  unfolding height
  no_lower c d h = no_fewer (top * a) (43000 * c) (43000 * d) some (omega arith)

  -- under a top that fits the month, a bar is no higher than the scale
  pub within-scale : (c : ℕ) → 100 * c ≤ top * a → height top a c ≤ 430
  unfolding height
  within-scale c h = div-le_of_le-mul (top * a) (omega arith)

  -- a part ends where the counts before it end: its upper edge and its height make the upper edge of what is below it
  pub no_gap : (below count : ℕ) → 100 * (below + count) ≤ top * a
      → 540 - height top a (below + count) + (height top a (below + count) - height top a below) ≡ 540 - height top a below
  no_gap below count h = omega (arith, no_lower below (below + count) (omega arith), within-scale (below + count) h)

-- ---- worked examples

-- the tops of some years: nothing refused, 1, 2, 3, 8, 11, 21 and 51 of 100
abbrev year : ℕ → List (List ℕ)
year refused = ((100 - refused) ∷ refused ∷ 0 ∷ 0 ∷ 0 ∷ 0 ∷ 0 ∷ 0 ∷ 0 ∷ 0 ∷ []) ∷ replicate 11 (replicate 10 0)

pub tops : map (λ (n : ℕ). top_of (year n)) (0 ∷ 1 ∷ 2 ∷ 3 ∷ 8 ∷ 11 ∷ 21 ∷ 51 ∷ []) ≡ 1 ∷ 1 ∷ 2 ∷ 5 ∷ 10 ∷ 20 ∷ 50 ∷ 100 ∷ []
unfolding sum fits top_of
tops = refl

-- the most of 100 that each top holds, and one more
pub tops_at_their_ends : map (λ (n : ℕ). top_of (year n)) (5 ∷ 6 ∷ 10 ∷ 11 ∷ 20 ∷ 21 ∷ 50 ∷ 51 ∷ []) ≡ 5 ∷ 10 ∷ 10 ∷ 20 ∷ 20 ∷ 50 ∷ 50 ∷ 100 ∷ []
unfolding sum fits top_of
tops_at_their_ends = refl

-- the scale of a small year has a line for each number
pub scale_of_two : scale 2 ≡ ascii "<path d='M90,540H990' stroke='#ddd'/><text x='80' y='545' text-anchor='end'>0</text>\n<path d='M90,325H990' stroke='#ddd'/><text x='80' y='330' text-anchor='end'>1</text>\n<path d='M90,110H990' stroke='#ddd'/><text x='80' y='115' text-anchor='end'>2</text>\n"
unfolding decimal_in decimal filled_in divisions scale_line scale_from scale
scale_of_two = refl

-- the bar of November, the eleventh, under a top of 10: four parts, from 540 up to 196
pub november_bar : parts_from 10 10 100 1 0 (1 ∷ 2 ∷ 0 ∷ 0 ∷ 0 ∷ 3 ∷ 0 ∷ 2 ∷ 0 ∷ []) ≡
    ascii "<rect x='852' y='497' width='51' height='43' fill='url(#p1)' stroke='#111'/>\n<rect x='852' y='411' width='51' height='86' fill='url(#p2)' stroke='#111'/>\n<rect x='852' y='282' width='51' height='129' fill='url(#p6)' stroke='#111'/>\n<rect x='852' y='196' width='51' height='86' fill='url(#p8)' stroke='#111'/>\n"
unfolding decimal_in decimal filled_in height part parts_from
november_bar = refl

-- three of seven, under a top of 100, where no part comes out even: 61, 61 and 62 units, and no gap between them
pub uneven_bar : parts_from 0 100 7 1 0 (1 ∷ 1 ∷ 1 ∷ []) ≡
    ascii "<rect x='102' y='479' width='51' height='61' fill='url(#p1)' stroke='#111'/>\n<rect x='102' y='418' width='51' height='61' fill='url(#p2)' stroke='#111'/>\n<rect x='102' y='356' width='51' height='62' fill='url(#p3)' stroke='#111'/>\n"
unfolding decimal_in decimal filled_in height part parts_from
uneven_bar = refl

-- a year: 1 of 100 in January, 3 in June, 8 in November, and every number once among the 200 of March
abbrev four_months : List (List ℕ)
four_months =
    (99 ∷ 0 ∷ 0 ∷ 0 ∷ 0 ∷ 0 ∷ 1 ∷ 0 ∷ 0 ∷ 0 ∷ [])
    ∷ (replicate 10 0)
    ∷ (191 ∷ 1 ∷ 1 ∷ 1 ∷ 1 ∷ 1 ∷ 1 ∷ 1 ∷ 1 ∷ 1 ∷ [])
    ∷ (replicate 10 0)
    ∷ (replicate 10 0)
    ∷ (97 ∷ 1 ∷ 0 ∷ 0 ∷ 0 ∷ 0 ∷ 2 ∷ 0 ∷ 0 ∷ 0 ∷ [])
    ∷ (replicate 10 0)
    ∷ (replicate 10 0)
    ∷ (replicate 10 0)
    ∷ (replicate 10 0)
    ∷ (92 ∷ 1 ∷ 2 ∷ 0 ∷ 0 ∷ 0 ∷ 3 ∷ 0 ∷ 2 ∷ 0 ∷ [])
    ∷ (replicate 10 0)
    ∷ []

-- its picture, line by line
abbrev drawn : List String
drawn =
    "<svg xmlns='http://www.w3.org/2000/svg' viewBox='0 0 1120 700' width='1120' height='700' font-family='DejaVu Sans, Arial, sans-serif' font-size='15' fill='#111'>\n"
    ∷ "<rect width='100%' height='100%' fill='#fff'/>\n"
    ∷ "<text x='90' y='48' font-size='26' font-weight='bold'>Refused messages by month</text>\n"
    ∷ "<text x='90' y='76'>500 records, 21 refused; of each hundred, in whole numbers, rounded down</text>\n"
    ∷ "<defs>\n"
    ∷ "<pattern id='p1' width='8' height='8' patternUnits='userSpaceOnUse'><rect width='8' height='8' fill='#1b1b1b'/></pattern>\n"
    ∷ "<pattern id='p2' width='8' height='8' patternUnits='userSpaceOnUse'><rect width='8' height='8' fill='#8a8a8a'/></pattern>\n"
    ∷ "<pattern id='p3' width='8' height='8' patternUnits='userSpaceOnUse'><rect width='8' height='8' fill='#fff'/><path d='M-2,10L10,-2M-2,2L2,-2M6,10L10,6' stroke='#111' stroke-width='2'/></pattern>\n"
    ∷ "<pattern id='p4' width='8' height='8' patternUnits='userSpaceOnUse'><rect width='8' height='8' fill='#bfe3f7'/><path d='M-2,-2L10,10M-2,6L2,10M6,-2L10,2' stroke='#111' stroke-width='2'/></pattern>\n"
    ∷ "<pattern id='p5' width='8' height='8' patternUnits='userSpaceOnUse'><rect width='8' height='8' fill='#f4d35e'/><path d='M0,4H8' stroke='#111' stroke-width='2'/></pattern>\n"
    ∷ "<pattern id='p6' width='8' height='8' patternUnits='userSpaceOnUse'><rect width='8' height='8' fill='#f7b27a'/><path d='M4,0V8' stroke='#111' stroke-width='2'/></pattern>\n"
    ∷ "<pattern id='p7' width='8' height='8' patternUnits='userSpaceOnUse'><rect width='8' height='8' fill='#c7e9c0'/><path d='M0,4H8M4,0V8' stroke='#111' stroke-width='1'/></pattern>\n"
    ∷ "<pattern id='p8' width='8' height='8' patternUnits='userSpaceOnUse'><rect width='8' height='8' fill='#e9b8d3'/><circle cx='4' cy='4' r='2'/></pattern>\n"
    ∷ "<pattern id='p9' width='8' height='8' patternUnits='userSpaceOnUse'><rect width='8' height='8' fill='#fff'/><path d='M-2,10L10,-2M-2,2L2,-2M6,10L10,6M-2,-2L10,10M-2,6L2,10M6,-2L10,2' stroke='#111' stroke-width='1'/></pattern>\n"
    ∷ "</defs>\n"
    ∷ "<path d='M90,540H990' stroke='#ddd'/><text x='80' y='545' text-anchor='end'>0</text>\n"
    ∷ "<path d='M90,454H990' stroke='#ddd'/><text x='80' y='459' text-anchor='end'>2</text>\n"
    ∷ "<path d='M90,368H990' stroke='#ddd'/><text x='80' y='373' text-anchor='end'>4</text>\n"
    ∷ "<path d='M90,282H990' stroke='#ddd'/><text x='80' y='287' text-anchor='end'>6</text>\n"
    ∷ "<path d='M90,196H990' stroke='#ddd'/><text x='80' y='201' text-anchor='end'>8</text>\n"
    ∷ "<path d='M90,110H990' stroke='#ddd'/><text x='80' y='115' text-anchor='end'>10</text>\n"
    ∷ "<text x='127' y='564' text-anchor='middle' font-weight='bold'>Jan</text>\n"
    ∷ "<rect x='102' y='497' width='51' height='43' fill='url(#p6)' stroke='#111'/>\n"
    ∷ "<text x='127' y='489' text-anchor='middle' font-weight='bold'>1</text>\n"
    ∷ "<text x='127' y='584' text-anchor='middle' font-size='11'>1 of 100</text>\n"
    ∷ "<text x='202' y='564' text-anchor='middle' font-weight='bold'>Feb</text>\n"
    ∷ "<text x='202' y='584' text-anchor='middle' font-size='11' fill='#777'>no records</text>\n"
    ∷ "<text x='277' y='564' text-anchor='middle' font-weight='bold'>Mar</text>\n"
    ∷ "<rect x='252' y='519' width='51' height='21' fill='url(#p1)' stroke='#111'/>\n"
    ∷ "<rect x='252' y='497' width='51' height='22' fill='url(#p2)' stroke='#111'/>\n"
    ∷ "<rect x='252' y='476' width='51' height='21' fill='url(#p3)' stroke='#111'/>\n"
    ∷ "<rect x='252' y='454' width='51' height='22' fill='url(#p4)' stroke='#111'/>\n"
    ∷ "<rect x='252' y='433' width='51' height='21' fill='url(#p5)' stroke='#111'/>\n"
    ∷ "<rect x='252' y='411' width='51' height='22' fill='url(#p6)' stroke='#111'/>\n"
    ∷ "<rect x='252' y='390' width='51' height='21' fill='url(#p7)' stroke='#111'/>\n"
    ∷ "<rect x='252' y='368' width='51' height='22' fill='url(#p8)' stroke='#111'/>\n"
    ∷ "<rect x='252' y='347' width='51' height='21' fill='url(#p9)' stroke='#111'/>\n"
    ∷ "<text x='277' y='339' text-anchor='middle' font-weight='bold'>4</text>\n"
    ∷ "<text x='277' y='584' text-anchor='middle' font-size='11'>9 of 200</text>\n"
    ∷ "<text x='352' y='564' text-anchor='middle' font-weight='bold'>Apr</text>\n"
    ∷ "<text x='352' y='584' text-anchor='middle' font-size='11' fill='#777'>no records</text>\n"
    ∷ "<text x='427' y='564' text-anchor='middle' font-weight='bold'>May</text>\n"
    ∷ "<text x='427' y='584' text-anchor='middle' font-size='11' fill='#777'>no records</text>\n"
    ∷ "<text x='502' y='564' text-anchor='middle' font-weight='bold'>Jun</text>\n"
    ∷ "<rect x='477' y='497' width='51' height='43' fill='url(#p1)' stroke='#111'/>\n"
    ∷ "<rect x='477' y='411' width='51' height='86' fill='url(#p6)' stroke='#111'/>\n"
    ∷ "<text x='502' y='403' text-anchor='middle' font-weight='bold'>3</text>\n"
    ∷ "<text x='502' y='584' text-anchor='middle' font-size='11'>3 of 100</text>\n"
    ∷ "<text x='577' y='564' text-anchor='middle' font-weight='bold'>Jul</text>\n"
    ∷ "<text x='577' y='584' text-anchor='middle' font-size='11' fill='#777'>no records</text>\n"
    ∷ "<text x='652' y='564' text-anchor='middle' font-weight='bold'>Aug</text>\n"
    ∷ "<text x='652' y='584' text-anchor='middle' font-size='11' fill='#777'>no records</text>\n"
    ∷ "<text x='727' y='564' text-anchor='middle' font-weight='bold'>Sep</text>\n"
    ∷ "<text x='727' y='584' text-anchor='middle' font-size='11' fill='#777'>no records</text>\n"
    ∷ "<text x='802' y='564' text-anchor='middle' font-weight='bold'>Oct</text>\n"
    ∷ "<text x='802' y='584' text-anchor='middle' font-size='11' fill='#777'>no records</text>\n"
    ∷ "<text x='877' y='564' text-anchor='middle' font-weight='bold'>Nov</text>\n"
    ∷ "<rect x='852' y='497' width='51' height='43' fill='url(#p1)' stroke='#111'/>\n"
    ∷ "<rect x='852' y='411' width='51' height='86' fill='url(#p2)' stroke='#111'/>\n"
    ∷ "<rect x='852' y='282' width='51' height='129' fill='url(#p6)' stroke='#111'/>\n"
    ∷ "<rect x='852' y='196' width='51' height='86' fill='url(#p8)' stroke='#111'/>\n"
    ∷ "<text x='877' y='188' text-anchor='middle' font-weight='bold'>8</text>\n"
    ∷ "<text x='877' y='584' text-anchor='middle' font-size='11'>8 of 100</text>\n"
    ∷ "<text x='952' y='564' text-anchor='middle' font-weight='bold'>Dec</text>\n"
    ∷ "<text x='952' y='584' text-anchor='middle' font-size='11' fill='#777'>no records</text>\n"
    ∷ "<text x='30' y='96'>of 100</text>\n"
    ∷ "<path d='M90,110V540H990' fill='none' stroke='#111' stroke-width='1.5'/>\n"
    ∷ "<rect x='90' y='610' width='22' height='16' fill='url(#p1)' stroke='#111'/><text x='120' y='623'>1 too short</text>\n"
    ∷ "<rect x='325' y='610' width='22' height='16' fill='url(#p2)' stroke='#111'/><text x='355' y='623'>2 wrong format</text>\n"
    ∷ "<rect x='560' y='610' width='22' height='16' fill='url(#p3)' stroke='#111'/><text x='590' y='623'>3 unknown mode</text>\n"
    ∷ "<rect x='795' y='610' width='22' height='16' fill='url(#p4)' stroke='#111'/><text x='825' y='623'>4 unknown sub-function</text>\n"
    ∷ "<rect x='90' y='638' width='22' height='16' fill='url(#p5)' stroke='#111'/><text x='120' y='651'>5 no trouble code</text>\n"
    ∷ "<rect x='325' y='638' width='22' height='16' fill='url(#p6)' stroke='#111'/><text x='355' y='651'>6 bad width</text>\n"
    ∷ "<rect x='560' y='638' width='22' height='16' fill='url(#p7)' stroke='#111'/><text x='590' y='651'>7 no room</text>\n"
    ∷ "<rect x='795' y='638' width='22' height='16' fill='url(#p8)' stroke='#111'/><text x='825' y='651'>8 unequal sizes</text>\n"
    ∷ "<rect x='90' y='666' width='22' height='16' fill='url(#p9)' stroke='#111'/><text x='120' y='679'>9 bytes left over</text>\n"
    ∷ "</svg>\n"
    ∷ []

abbrev joined : List String → List ℕ
joined [] = []
joined (line ∷ others) = ascii line ++ joined others

pub whole_picture : chart four_months ≡ joined drawn
unfolding sum decimal_in decimal filled_in opening closing of_year heading plain slanted straight dotted patterns axes empty_note fits top_of divisions scale_line scale_from scale height part parts_from name_of figures no_records month_drawn months_from occurs words entry legend_from chart
whole_picture = refl

-- the legend has the numbers that occur in some month, and no other
pub in_legend : map (λ (n : ℕ). occurs n ((5 ∷ 0 ∷ 2 ∷ 0 ∷ 0 ∷ []) ∷ (1 ∷ 0 ∷ 0 ∷ 3 ∷ 0 ∷ []) ∷ [])) (0 ∷ 1 ∷ 2 ∷ 3 ∷ 4 ∷ []) ≡ true ∷ false ∷ true ∷ true ∷ false ∷ []
unfolding occurs
in_legend = refl

-- a year without any record
pub empty_year : empty_note (replicate 12 (replicate 10 0)) ≡ ascii "<text x='540' y='330' text-anchor='middle' font-size='20' fill='#777'>no records in this year</text>\n"
unfolding sum of_year empty_note
empty_year = refl

-- what is cut, out of range or too long is said in a picture that has nothing else
abbrev pub rows : List (List ℕ × String)
rows =
    (1 ∷ 2 ∷ 0 ∷ 3 ∷ 4 ∷ 5 ∷ 6 ∷ [], "<text x='90' y='48' font-size='26'>refused 10 0 0</text>\n")
    ∷ (replicate 65536 0, "<text x='90' y='48' font-size='26'>refused 11 0 0</text>\n")
    ∷ (1 ∷ 7 ∷ 0 ∷ 0 ∷ 0 ∷ 0 ∷ 0 ∷ 0 ∷ 13 ∷ 7 ∷ 0 ∷ 0 ∷ 0 ∷ 0 ∷ 0 ∷ 0 ∷ [], "<text x='90' y='48' font-size='26'>refused 11 1 0</text>\n")
    ∷ (replicate 65537 0, "<text x='90' y='48' font-size='26'>too long</text>\n")
    ∷ []

pub rows_right : map (λ (r : List ℕ × String). chart_text r.0) rows ≡ map (λ (r : List ℕ × String). opening ++ (ascii r.1 ++ closing)) rows
unfolding of_bytes in_range decimal_in decimal filled_in entries records in_ranges all_good tallied chart_for too_long_drawn chart_text
rows_right = refl
