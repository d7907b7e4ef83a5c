use Rattle.step.proofs.Left.{leaving}
use Rattle.step.proofs.step.Goals as goal

pub returns-in-Data : goal.returns-in-Data
returns-in-Data c = search leaving

pub returns-in-Pop : goal.returns-in-Pop
returns-in-Pop c = search leaving

pub returns-in-Report : goal.returns-in-Report
returns-in-Report c = search leaving

pub returns-in-FullAck : goal.returns-in-FullAck
returns-in-FullAck c = search leaving

pub returns-in-Ack2 : goal.returns-in-Ack2
returns-in-Ack2 c = search leaving

pub returns-in-Drop : goal.returns-in-Drop
returns-in-Drop c = search leaving

pub returns-in-Clock : goal.returns-in-Clock
returns-in-Clock c = search leaving

pub returns-in-Clear : goal.returns-in-Clear
returns-in-Clear c = search leaving
