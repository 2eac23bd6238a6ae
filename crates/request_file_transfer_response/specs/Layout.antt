-- The paper's table entries for each of the code's.
use Rattle.std.specs.Prelude.{Option, Some, None}
use Rattle.paper.specs.Response as paper
use Rattle.paper.specs.Response.{nothing, two_sizes, one_size, one_position, ended, block_and_format}
use Rattle.request_file_transfer_response.specs.declared.layout.AfterFormat.{AfterFormat}

abbrev pub more_of : AfterFormat → paper.AfterFormat
more_of AfterFormat.Nothing = nothing
more_of AfterFormat.TwoSizes = two_sizes
more_of AfterFormat.OneSize = one_size
more_of AfterFormat.Position = one_position

-- block length and format byte stand before what is listed; where nothing is, the message ends with the mode
abbrev pub layout_of : Option AfterFormat → paper.AfterMode
layout_of None = ended
layout_of (Some more) = block_and_format (more_of more)
