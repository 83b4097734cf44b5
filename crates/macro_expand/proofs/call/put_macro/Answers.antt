use Rattle.std.proofs.Common.{rules}
use Rattle.macro_expand.proofs.MacroCode.{macro_starts}
use Rattle.macro_expand.proofs.call.put_macro.Goals as goal

pub expand_alternatives-requires : goal.expand_alternatives-requires
expand_alternatives-requires c = let S = macro_starts _ _ _ _ _ _ _ _ c.requires.0 _ c.requires.1 (search rules) _ _ _ c.put_named_item-first.ensures c.requires.2 in (S.frame, S.some)

pub returns : goal.returns
returns c = let S = macro_starts _ _ _ _ _ _ _ _ c.requires.0 _ c.requires.1 (search rules) _ _ _ c.put_named_item-first.ensures c.requires.2 in S.carry _ _ c.expand_alternatives.ensures
