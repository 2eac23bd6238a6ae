-- `request_file_transfer::read::rest_at` meets its contract: each layout has its reader.
use Rattle.request_file_transfer.proofs.read.rest_at.Goals as goal

pub returns-in-FormatAndSizes : goal.returns-in-FormatAndSizes
returns-in-FormatAndSizes c = rw c.in-FormatAndSizes.is c.format_and_sizes_at.ensures

pub returns-in-Nothing : goal.returns-in-Nothing
returns-in-Nothing c = rw c.in-Nothing.is c.nothing_at.ensures

pub returns-in-FormatOnly : goal.returns-in-FormatOnly
returns-in-FormatOnly c = rw c.in-FormatOnly.is c.format_at.ensures
