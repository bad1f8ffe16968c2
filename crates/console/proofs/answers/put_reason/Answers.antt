-- `console::answers::put_reason` meets its contract: each reason has its text. Assumes nothing.
use Rattle.console.proofs.answers.put_reason.Goals as goal

pub returns-in-Fields : goal.returns-in-Fields
returns-in-Fields c = rw c.in-Fields.is c.put_error.ensures

pub returns-in-Number : goal.returns-in-Number
returns-in-Number c = rw c.in-Number.is c.put_error-in-Number.ensures

pub returns-in-Hex : goal.returns-in-Hex
returns-in-Hex c = rw c.in-Hex.is c.put_error-in-Hex.ensures

pub returns-in-Room : goal.returns-in-Room
returns-in-Room c = rw c.in-Room.is c.put_error-in-Room.ensures

pub returns-in-Unknown : goal.returns-in-Unknown
returns-in-Unknown c = rw c.in-Unknown.is c.put_error-in-Unknown.ensures

pub returns-in-Long : goal.returns-in-Long
returns-in-Long c = rw c.in-Long.is c.put_error-in-Long.ensures
