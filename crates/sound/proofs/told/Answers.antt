use mir.Syntax.{w64}
use borrow.Author.Rules.{elem_Fits}
use Rattle.sound.proofs.told.Goals as goal

-- what is owned of an array: its length, and that each element fits
pub returns : goal.returns
returns c = record { long = c.well_formed.0.1.0.1; small = λ i. (elem_Fits w64 w64 c.args.ws c.well_formed.0.0 i c.well_formed.0.1.1 tt).fits }
