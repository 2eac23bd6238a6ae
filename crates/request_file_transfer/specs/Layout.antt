-- The paper's table entry for each of the code's.
use Rattle.paper.specs.Request as paper
use Rattle.paper.specs.Request.{format_and_sizes, nothing, format_only}
use Rattle.request_file_transfer.specs.declared.layout.AfterName.{AfterName}
use Rattle.request_file_transfer.specs.declared.layout.AfterName.TheVariants.{FormatAndSizes, Nothing, FormatOnly}

abbrev pub layout_of : AfterName → paper.AfterName
layout_of FormatAndSizes = format_and_sizes
layout_of Nothing = nothing
layout_of FormatOnly = format_only
