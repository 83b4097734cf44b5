use Rattle.validate.proofs.SuitsCode.{symbols}
use Rattle.validate.proofs.suits.symbol_suits.Goals as goal

pub returns-in-Leaf : goal.returns-in-Leaf
returns-in-Leaf c = search symbols

pub returns-in-Around-Name : goal.returns-in-Around-Name
returns-in-Around-Name c = search symbols

pub returns-in-Around-Repeat : goal.returns-in-Around-Repeat
returns-in-Around-Repeat c = search symbols

pub returns-in-Over-Macro : goal.returns-in-Over-Macro
returns-in-Over-Macro c = search symbols

pub returns-in-Over-Group : goal.returns-in-Over-Group
returns-in-Over-Group c = search symbols
