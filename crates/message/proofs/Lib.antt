-- pieces that are put one after the other; where a place of a text stands
mod Laws
-- how long each part of a message is at most
mod Room
-- the message of a refusal in its parts
pub mod Whole
-- each number that a text is refused with has a sentence
pub mod Sentences
-- the line that a place of a text is in
pub mod Lines
-- the mark stands under the place
pub mod Mark
