-- The laws of calls on words: message.rt (`Singles`: a message of one packet), data.rt (`Nexts`: a packet at the next expected number) and clear.rt; and `Says`, that the words after a
-- call say the head that it ended with.
pub mod Determined
pub mod Messages
pub mod Singles
pub mod Datas
pub mod Nexts
pub mod Clears
pub mod Says
