use Rattle.feedback.proofs.Syncs.{syncs}
use Rattle.feedback.proofs.sync.synchronize_clock.Goals as goal

pub returns-in-Err : goal.returns-in-Err
returns-in-Err c = search syncs

pub synchronize-requires : goal.synchronize-requires
synchronize-requires c = search syncs

pub returns : goal.returns
returns c = search syncs
