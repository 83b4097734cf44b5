use borrow.Author.Rules.{rules}
use Rattle.expander.proofs.FindCode.{texting, key_told}
use Rattle.expander.proofs.find.is_text.Goals as goal

pub overflow_add-start : goal.overflow_add-start
overflow_add-start c = search texting

pub meet_symbol-requires : goal.meet_symbol-requires
meet_symbol-requires c = search texting

pub returns : goal.returns
returns c = key_told _ _ _ c.requires.0 (search rules) _ c.requires.2 _ _ _ c.text-t.ensures c.meet_symbol.ensures _ _ c.is_some_and.ensures (λ m a. search rules)
