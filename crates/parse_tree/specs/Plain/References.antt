-- The texts that a tree refers to, in the order of the tape's operands. Assumes nothing: these are definitions.
use Rattle.std.specs.Prelude.{List, [], ◌∷◌, ◌++◌}
use Rattle.std.proofs.Math.Option.{none, some}
use Rattle.parse_tree.specs.Plain.Tree.{Text, Leaf, Around, Over, Sym, Syms, Action, Attribute, Condition, Alternative, Item, Stage, ambiguous, bare, quoted, regex, nonterminal, lookahead, lookbehind, error, repeat, choose, name, macro, group, leaf, around, over, nil, cons, no_action, user, fallible, lookahead_action, lookbehind_action, item, terminal, conditions}
use Rattle.parse_tree.specs.Plain.Texts.{with_new}

-- what each element refers to, one behind another
unfoldable pub texts_of_each : {A : Type 0} → (A → List Text) → List A → List Text
texts_of_each f [] = []
texts_of_each f (x ∷ xs) = f x ++ texts_of_each f xs

unfoldable pub leaf_texts : Leaf → List Text
leaf_texts (ambiguous x) = x ∷ []
leaf_texts (bare x) = x ∷ []
leaf_texts (quoted x) = x ∷ []
leaf_texts (regex x) = x ∷ []
leaf_texts (nonterminal x) = x ∷ []
leaf_texts lookahead = []
leaf_texts lookbehind = []
leaf_texts error = []

unfoldable pub around_texts : Around → List Text
around_texts (repeat o) = []
around_texts choose = []
around_texts (name m x) = x ∷ []

unfoldable pub over_texts : Over → List Text
over_texts (macro x) = x ∷ []
over_texts group = []

unfoldable mutual
  pub sym_texts : Sym → List Text
  sym_texts (leaf s l) = leaf_texts l
  sym_texts (around s a x) = around_texts a ++ sym_texts x
  sym_texts (over s o xs) = over_texts o ++ syms_texts xs

  pub syms_texts : Syms → List Text
  syms_texts nil = []
  syms_texts (cons x xs) = sym_texts x ++ syms_texts xs

unfoldable pub action_texts : Action → List Text
action_texts no_action = []
action_texts (user t) = t ∷ []
action_texts (fallible t) = t ∷ []
action_texts lookahead_action = []
action_texts lookbehind_action = []

unfoldable pub attribute_texts : Attribute → List Text
attribute_texts a = elim a.argument [ none ↦ a.id ∷ [] | some kv ↦ a.id ∷ kv.0 ∷ kv.1 ∷ [] ]

unfoldable pub condition_texts : Condition → List Text
condition_texts c = c.lhs ∷ c.rhs ∷ []

-- 12's text16 stands before its attributes
unfoldable pub alternative_texts : Alternative → List Text
alternative_texts a =
    action_texts a.action ++ (texts_of_each attribute_texts a.attributes ++ (texts_of_each condition_texts (conditions a.condition) ++ syms_texts a.symbols))

unfoldable pub item_texts : Item → List Text
item_texts (item d) = d.name ∷ (d.args ++ texts_of_each alternative_texts d.alternatives)
item_texts (terminal s o x) = x ∷ []

-- "A stage's atoms are the former stage's, then new texts by first reference in its items"
unfoldable pub stage_of : List Text → List Item → Stage
stage_of ts items = record { atoms = with_new ts (texts_of_each item_texts items); items = items }
