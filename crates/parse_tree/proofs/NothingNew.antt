-- A stage within its limits holds all its texts: written again, it gets no new atom. Assumes nothing.
use mathlib.Core.Path.{◌≡◌, refl}
use mathlib.Core.Bool.{Bool, true}
use mathlib.Core.List.{List, [], ◌∷◌, ◌++◌}
use mathlib.Core.Option.{Option, none, some}
use Prim.Native.Nat.{ℕ, zero, suc}
use Rattle.parse_tree.specs.Plain.Tree.{Text, Leaf, Around, Over, Sym, Syms, Action, Condition, Alternative, Item, Stage, ambiguous, bare, quoted, regex, nonterminal, lookahead, lookbehind, error, repeat, choose, name, macro, group, leaf, around, over, nil, cons, no_action, user, fallible, lookahead_action, lookbehind_action, item, terminal, count, conditions}
use Rattle.parse_tree.specs.Plain.Texts.{is_name, has, with_new}
use Rattle.parse_tree.specs.Working.Encode.{stage_bytes, encode}
use Rattle.parse_tree.specs.Plain.References.{texts_of_each, leaf_texts, around_texts, over_texts, sym_texts, syms_texts, action_texts, attribute_texts, condition_texts, alternative_texts, item_texts, stage_of}
use Rattle.parse_tree.specs.Working.Within.{Each, Uses, LeafWithin, AroundWithin, OverWithin, SymWithin, SymsWithin, ActionWithin, ArgumentWithin, AttributeWithin, ConditionWithin, AlternativeWithin, ItemWithin, StageWithin}
use Rattle.parse_tree.proofs.ReadingLaws.{each_append}

-- each of xs is among ts
abbrev pub There : List Text → List Text → Type 0
There ts xs = Each (λ (x : Text). has x ts ≡ true) xs

with_new_none : (ts xs : List Text) → There ts xs → with_new ts xs ≡ ts
unfolding with_new
with_new_none ts [] h = refl
with_new_none ts (x ∷ xs) h = cc (h.0, with_new_none ts xs h.1)

module _ (four : Bool) (w : ℕ) (ts : List Text) where
  there_append : (xs ys : List Text) → There ts xs → There ts ys → There ts (xs ++ ys)
  there_append xs ys h k = each_append (λ (x : Text). has x ts ≡ true) xs ys h k

  there_each : {A : Type 0} (W : A → Type 0) (f : A → List Text) → ((x : A) → W x → There ts (f x)) → (xs : List A) → Each W xs → There ts (texts_of_each f xs)
  unfolding texts_of_each
  there_each W f g [] h = tt
  there_each W f g (x ∷ xs) h = there_append (f x) (texts_of_each f xs) (g x h.0) (there_each W f g xs h.1)

  pub leaf_there : (l : Leaf) → LeafWithin four w ts l → There ts (leaf_texts l)
  unfolding leaf_texts
  leaf_there (ambiguous x) u = (u.0, tt)
  leaf_there (bare x) u = (u.0, tt)
  leaf_there (quoted x) u = (u.0, tt)
  leaf_there (regex x) u = (u.0, tt)
  leaf_there (nonterminal x) u = (u.0, tt)
  leaf_there lookahead u = tt
  leaf_there lookbehind u = tt
  leaf_there error u = tt

  pub around_there : (o : Around) → AroundWithin four w ts o → There ts (around_texts o)
  unfolding around_texts
  around_there (repeat o) u = tt
  around_there choose u = tt
  around_there (name m x) u = (u.0, tt)

  over_there : (o : Over) (n : ℕ) → OverWithin four w ts o n → There ts (over_texts o)
  unfolding over_texts
  over_there (macro x) n u = (u.0.0, tt)
  over_there group n u = tt

  mutual
    unfolding sym_texts syms_texts

    sym_there : (x : Sym) (left : ℕ) → SymWithin four w ts x left → There ts (sym_texts x)
    sym_there (leaf s l) zero h = absurd h
    sym_there (leaf s l) (suc left) h = leaf_there l h.1
    sym_there (around s o x) zero h = absurd h
    sym_there (around s o x) (suc left) h = there_append (around_texts o) (sym_texts x) (around_there o h.1) (sym_there x left h.2)
    sym_there (over s o xs) zero h = absurd h
    sym_there (over s o xs) (suc left) h = there_append (over_texts o) (syms_texts xs) (over_there o (count xs) h.1) (syms_there xs left h.2)

    syms_there : (xs : Syms) (left : ℕ) → SymsWithin four w ts xs left → There ts (syms_texts xs)
    syms_there nil left h = tt
    syms_there (cons x xs) left h = there_append (sym_texts x) (syms_texts xs) (sym_there x left h.0) (syms_there xs left h.1)

  pub action_there : (x : Action) → ActionWithin four w ts x → There ts (action_texts x)
  unfolding action_texts
  action_there no_action u = tt
  action_there (user t) u = (u.0, tt)
  action_there (fallible t) u = (u.0, tt)
  action_there lookahead_action u = tt
  action_there lookbehind_action u = tt

  pub attribute_there : (i : Text) (o : Option (Text × Text)) → Uses four w ts is_name i → ArgumentWithin four w ts o → There ts (attribute_texts (record { id = i; argument = o }))
  unfolding attribute_texts
  attribute_there i none u v = (u.0, tt)
  attribute_there i (some kv) u v = (u.0, (v.0.0, (v.1.0, tt)))

  condition_there : (c : Condition) → ConditionWithin four w ts c → There ts (condition_texts c)
  unfolding condition_texts
  condition_there c h = (h.lhs.0, (h.rhs.0, tt))

  alternative_there : (a : Alternative) → AlternativeWithin four w ts a → There ts (alternative_texts a)
  unfolding alternative_texts
  alternative_there a h =
      there_append (action_texts a.action) _ (action_there a.action h.action)
      (there_append (texts_of_each attribute_texts a.attributes) _ (there_each (AttributeWithin four w ts) attribute_texts (λ x u. attribute_there x.id x.argument u.0 u.1) a.attributes h.attributes)
      (there_append (texts_of_each condition_texts (conditions a.condition)) _ (there_each (ConditionWithin four w ts) condition_texts condition_there (conditions a.condition) h.condition)
      (syms_there a.symbols 64 h.symbols)))

  names_there : (xs : List Text) → Each (Uses four w ts is_name) xs → There ts xs
  names_there [] h = tt
  names_there (x ∷ xs) h = (h.0.0, names_there xs h.1)

  item_there : (i : Item) → ItemWithin four w ts i → There ts (item_texts i)
  unfolding item_texts
  item_there (item d) h =
      (h.name.0, there_append d.args _ (names_there d.args h.args) (there_each (AlternativeWithin four w ts) alternative_texts alternative_there d.alternatives h.alternatives))
  item_there (terminal s o x) h = (h.1.0, tt)

pub none_new : (four : Bool) (w : ℕ) (g : Stage) → StageWithin four w g → with_new g.atoms (texts_of_each item_texts g.items) ≡ g.atoms
none_new four w g h =
    with_new_none g.atoms (texts_of_each item_texts g.items) (there_each four w g.atoms (ItemWithin four w g.atoms) item_texts (item_there four w g.atoms) g.items h.items)

pub nothing-new : (four : Bool) (w : ℕ) (g : Stage) → StageWithin four w g → encode w g.atoms g.items ≡ stage_bytes w g
unfolding encode stage_of
nothing-new four w g h = rw (none_new four w g h)
