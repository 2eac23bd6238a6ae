-- `of_class` meets its contract: a class says how many bytes follow, and which the second may be.
use Rattle.std.proofs.Common.{refl}
use Rattle.paper.specs.Utf8.{begins}
use Rattle.paper.specs.LeadBytes.{length_by}
use Rattle.utf8.proofs.by_table.of_class.Goals as goal

pub returns-in-NoLead : goal.returns-in-NoLead
unfolding length_by begins
returns-in-NoLead c = rw c.in-NoLead.is refl

pub returns-in-Ascii : goal.returns-in-Ascii
unfolding length_by begins
returns-in-Ascii c = rw c.in-Ascii.is refl

pub returns-in-TwoBytes : goal.returns-in-TwoBytes
unfolding length_by
returns-in-TwoBytes c = rw c.in-TwoBytes.is c.sized.ensures

pub returns-in-LeadE0 : goal.returns-in-LeadE0
unfolding length_by
returns-in-LeadE0 c = rw c.in-LeadE0.is c.sized-in-LeadE0.ensures

pub returns-in-ThreeBytes : goal.returns-in-ThreeBytes
unfolding length_by
returns-in-ThreeBytes c = rw c.in-ThreeBytes.is c.sized-in-ThreeBytes.ensures

pub returns-in-LeadEd : goal.returns-in-LeadEd
unfolding length_by
returns-in-LeadEd c = rw c.in-LeadEd.is c.sized-in-LeadEd.ensures

pub returns-in-LeadF0 : goal.returns-in-LeadF0
unfolding length_by
returns-in-LeadF0 c = rw c.in-LeadF0.is c.sized-in-LeadF0.ensures

pub returns-in-FourBytes : goal.returns-in-FourBytes
unfolding length_by
returns-in-FourBytes c = rw c.in-FourBytes.is c.sized-in-FourBytes.ensures

pub returns-in-LeadF4 : goal.returns-in-LeadF4
unfolding length_by
returns-in-LeadF4 c = rw c.in-LeadF4.is c.sized-in-LeadF4.ensures
