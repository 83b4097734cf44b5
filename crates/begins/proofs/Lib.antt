-- Laws of begins: LevelsFew how many items levels give, LevelsTexts what texts they have, LevelsHeads what the items of levels pay, LevelsWeights what the new texts cost, ResolvedAgain what
-- resolving keeps, LevelsWithin that all is within limits, LevelsBegin what the first round begins with behind levels. Assumes nothing.
pub mod LevelsFew
pub mod LevelsTexts
pub mod LevelsHeads
pub mod LevelsWeights
pub mod ResolvedAgain
pub mod LevelsWithin
pub mod LevelsBegin
