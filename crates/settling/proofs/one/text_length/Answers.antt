use Rattle.settling.proofs.OneCode.{lengthening}
use Rattle.settling.proofs.one.text_length.Goals as goal

pub cell-requires : goal.cell-requires
cell-requires c = search lengthening

pub built_length-requires : goal.built_length-requires
built_length-requires c = search lengthening

pub returns-in-Print : goal.returns-in-Print
returns-in-Print c = search lengthening

pub returns-in-BuiltIn : goal.returns-in-BuiltIn
returns-in-BuiltIn c = search lengthening
