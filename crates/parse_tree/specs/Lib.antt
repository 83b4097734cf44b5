-- What a tape says. plain has it in the words of document 01: the tree, its printed forms, its tape read and written. working has it command by command, as
-- the code goes; that both are the same is proved (proofs/ReadTapeIs, WriteTapeIs).
pub mod Plain
pub mod Working
