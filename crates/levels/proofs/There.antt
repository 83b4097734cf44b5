-- The texts that items within limits refer to are known, and so are those of a level's alternatives where both its names are. Assumes nothing.
use mathlib.Core.Path.{◌≡◌, refl, sym, ap, ◌∙◌}
use mathlib.Core.Bool.{Bool, true, false, cond}
use mathlib.Core.List.{List, [], ◌∷◌, ◌++◌, map, append_assoc}
use mathlib.Core.Option.{Option, none, some}
use Prim.Native.Nat.{ℕ, zero, suc, ◌+◌}
use lib.Dec.{eqb}
use Rattle.octets.specs.Plain.Runs.{same_as}
use Rattle.parse_tree.specs.Plain.Tree.{Text, Leaf, Over, Sym, Syms, Action, Attribute, Condition, Alternative, Nonterminal, Item, ambiguous, bare, quoted, regex, nonterminal, lookahead, lookbehind, error, macro, group, leaf, around, over, nil, cons, no_action, user, fallible, lookahead_action, lookbehind_action, item, count, conditions}
use Rattle.parse_tree.specs.Plain.Texts.{is_name, has}
use Rattle.parse_tree.specs.Plain.References.{texts_of_each, leaf_texts, around_texts, over_texts, sym_texts, syms_texts, action_texts, attribute_texts, condition_texts, alternative_texts, item_texts}
use Rattle.parse_tree.specs.Working.Within.{Each, Uses, LeafWithin, OverWithin, SymWithin, SymsWithin, ActionWithin, ArgumentWithin, ConditionWithin, AlternativeWithin, NonterminalWithin, ItemWithin}
use Rattle.parse_tree.specs.declared.syntax.Span.{Span}
use Rattle.parse_tree.proofs.ReadingLaws.{each_append, each_map}
use Rattle.passes.specs.Outcome.{with_symbols}
use Rattle.passes.specs.Grades.{Side, all, non, left, right, Graded, ceiling}
use Rattle.passes.specs.Levels.{Group, lower_name, occurs, occurs_in, replace_occurrences, replace_occurrences_in, substitute, fall_through}
use Rattle.replacing.proofs.Growing.{Extends, extends_has}
use Rattle.parse_tree.proofs.NothingNew.{There, leaf_there, around_there}
use Rattle.levels.proofs.Graded.{GradedWithin}

-- ---- lists of texts
there_append : (us xs ys : List Text) → There us xs → There us ys → There us (xs ++ ys)
there_append us xs ys h k = each_append (λ (x : Text). has x us ≡ true) xs ys h k

there_each : {A : Type 0} (us : List Text) (f : A → List Text) (xs : List A) → Each (λ (x : A). There us (f x)) xs → There us (texts_of_each f xs)
unfolding texts_of_each
there_each us f [] h = tt
there_each us f (x ∷ xs) h = there_append us (f x) (texts_of_each f xs) h.0 (there_each us f xs h.1)

-- theorem: the texts of two lists
pub texts-append : {A : Type 0} (f : A → List Text) (xs ys : List A) → texts_of_each f (xs ++ ys) ≡ texts_of_each f xs ++ texts_of_each f ys
unfolding texts_of_each
texts-append f [] ys = refl
texts-append f (x ∷ xs) ys = ap (λ (l : List Text). f x ++ l) (texts-append f xs ys) ∙ sym (append_assoc (f x) (texts_of_each f xs) (texts_of_each f ys))

each-of_map : {A B : Type 0} (P : B → Type 0) (f : A → B) (xs : List A) → Each (λ (x : A). P (f x)) xs → Each P (map f xs)
each-of_map P f [] h = tt
each-of_map P f (x ∷ xs) h = (h.0, each-of_map P f xs h.1)

ceiling-has : (us : List Text) (s : Side) (own low : Text) (total j : ℕ) → has own us ≡ true → has low us ≡ true → has (ceiling s own low total j) us ≡ true
ceiling-has us all own low total j p q = p
ceiling-has us non own low total j p q = q
ceiling-has us left own low total j p q = go (eqb j 0)
  where
    go : (b : Bool) → has (cond b own low) us ≡ true
    go true = p
    go false = q
ceiling-has us right own low total j p q = go (eqb (suc j) total)
  where
    go : (b : Bool) → has (cond b own low) us ≡ true
    go true = p
    go false = q

-- a lower level's name, if there is one, is known
abbrev pub LowerIn : List Text → Option Text → Type 0
LowerIn us none = Unit {0}
LowerIn us (some n) = has n us ≡ true

-- us begins with ts
module _ (four : Bool) (wd : ℕ) (ts us : List Text) (p : Extends ts us) where
  there_later : (xs : List Text) → There ts xs → There us xs
  there_later xs h = each_map (λ (x : Text) i. extends_has ts us x p i) xs h

  over_there : (o : Over) (n : ℕ) → OverWithin four wd ts o n → There us (over_texts o)
  unfolding over_texts
  over_there (macro x) n u = (extends_has ts us x p u.0.0, tt)
  over_there group n u = tt

  mutual
    unfolding sym_texts syms_texts

    sym_there : (x : Sym) (more : ℕ) → SymWithin four wd ts x more → There us (sym_texts x)
    sym_there (leaf s l) zero h = absurd h
    sym_there (leaf s l) (suc more) h = there_later (leaf_texts l) (leaf_there four wd ts l h.1)
    sym_there (around s o x) zero h = absurd h
    sym_there (around s o x) (suc more) h = there_append us (around_texts o) (sym_texts x) (there_later (around_texts o) (around_there four wd ts o h.1)) (sym_there x more h.2)
    sym_there (over s o xs) zero h = absurd h
    sym_there (over s o xs) (suc more) h = there_append us (over_texts o) (syms_texts xs) (over_there o (count xs) h.1) (syms_there xs more h.2)

    syms_there : (xs : Syms) (more : ℕ) → SymsWithin four wd ts xs more → There us (syms_texts xs)
    syms_there nil more h = tt
    syms_there (cons x xs) more h = there_append us (sym_texts x) (syms_texts xs) (sym_there x more h.0) (syms_there xs more h.1)

  -- ---- symbols whose occurrences of E are replaced by known texts
  module _ (E : Text) (f : ℕ → Text) (known : (j : ℕ) → has (f j) us ≡ true) where
    leaf_replaced : (s : Span) (l : Leaf) (i : ℕ) → LeafWithin four wd ts l → There us (sym_texts (replace_occurrences E f (leaf s l) i))
    unfolding replace_occurrences sym_texts leaf_texts
    leaf_replaced s (ambiguous x) i u = (extends_has ts us x p u.0, tt)
    leaf_replaced s (bare x) i u = (extends_has ts us x p u.0, tt)
    leaf_replaced s (quoted x) i u = (extends_has ts us x p u.0, tt)
    leaf_replaced s (regex x) i u = (extends_has ts us x p u.0, tt)
    leaf_replaced s (nonterminal x) i u = go (same_as x E)
      where
        go : (b : Bool) → There us (sym_texts (leaf s (cond b (nonterminal (f i)) (nonterminal x))))
        go true = (known i, tt)
        go false = (extends_has ts us x p u.0, tt)
    leaf_replaced s lookahead i u = tt
    leaf_replaced s lookbehind i u = tt
    leaf_replaced s error i u = tt

    mutual
      unfolding replace_occurrences replace_occurrences_in sym_texts syms_texts

      replaced_there : (x : Sym) (i more : ℕ) → SymWithin four wd ts x more → There us (sym_texts (replace_occurrences E f x i))
      replaced_there (leaf s l) i zero h = absurd h
      replaced_there (leaf s l) i (suc more) h = leaf_replaced s l i h.1
      replaced_there (around s o x) i zero h = absurd h
      replaced_there (around s o x) i (suc more) h =
          there_append us (around_texts o) (sym_texts (replace_occurrences E f x i)) (there_later (around_texts o) (around_there four wd ts o h.1)) (replaced_there x i more h.2)
      replaced_there (over s o xs) i zero h = absurd h
      replaced_there (over s o xs) i (suc more) h =
          there_append us (over_texts o) (syms_texts (replace_occurrences_in E f xs i)) (over_there o (count xs) h.1) (all_replaced_there xs i more h.2)

      all_replaced_there : (xs : Syms) (i more : ℕ) → SymsWithin four wd ts xs more → There us (syms_texts (replace_occurrences_in E f xs i))
      all_replaced_there nil i more h = tt
      all_replaced_there (cons x xs) i more h =
          there_append us (sym_texts (replace_occurrences E f x i)) (syms_texts (replace_occurrences_in E f xs (i + occurs E x))) (replaced_there x i more h.0) (all_replaced_there xs (i + occurs E x) more h.1)

  -- ---- alternatives
  action_there : (a : Action) → ActionWithin four wd ts a → There us (action_texts a)
  unfolding action_texts
  action_there no_action u = tt
  action_there (user t) u = (extends_has ts us t p u.0, tt)
  action_there (fallible t) u = (extends_has ts us t p u.0, tt)
  action_there lookahead_action u = tt
  action_there lookbehind_action u = tt

  attribute_there : (i : Text) (o : Option (Text × Text)) → has i ts ≡ true → ArgumentWithin four wd ts o → There us (attribute_texts (record { id = i; argument = o }))
  unfolding attribute_texts
  attribute_there i none u v = (extends_has ts us i p u, tt)
  attribute_there i (some kv) u v = (extends_has ts us i p u, (extends_has ts us kv.0 p v.0.0, (extends_has ts us kv.1 p v.1.0, tt)))

  condition_there : (c : Condition) → ConditionWithin four wd ts c → There us (condition_texts c)
  unfolding condition_texts
  condition_there c h = (extends_has ts us c.lhs p h.lhs.0, (extends_has ts us c.rhs p h.rhs.0, tt))

  -- with other symbols
  alternative_there : (a : Alternative) (xs : Syms) → AlternativeWithin four wd ts a → There us (syms_texts xs) → There us (alternative_texts (with_symbols a xs))
  unfolding alternative_texts
  alternative_there a xs h k =
      let as' = texts_of_each attribute_texts a.attributes in
      let cs = texts_of_each condition_texts (conditions a.condition) in
      there_append us (action_texts a.action) (as' ++ (cs ++ syms_texts xs)) (action_there a.action h.action)
      (there_append us as' (cs ++ syms_texts xs) (there_each us attribute_texts a.attributes (each_map (λ (x : Attribute) u. attribute_there x.id x.argument u.0.0 u.1) a.attributes h.attributes))
      (there_append us cs (syms_texts xs) (there_each us condition_texts (conditions a.condition) (each_map condition_there (conditions a.condition) h.condition)) k))

  names_there : (xs : List Text) → Each (Uses four wd ts is_name) xs → There us xs
  names_there xs h = each_map (λ (x : Text) u. extends_has ts us x p u.0) xs h

  -- theorem: an item's texts are known
  pub item_there : (i : Item) → ItemWithin four wd ts i → There us (item_texts i)
  unfolding item_texts
  item_there (item d) h = (
    extends_has ts us d.name p h.name.0,
    there_append us d.args (texts_of_each alternative_texts d.alternatives) (names_there d.args h.args)
        (there_each us alternative_texts d.alternatives (each_map (λ (a : Alternative) u. alternative_there a a.symbols u (syms_there a.symbols 64 u.symbols)) d.alternatives h.alternatives)),
  )
  item_there (Item.terminal s o x) h = (extends_has ts us x p h.1.0, tt)

  -- ---- a level's alternatives
  fall_there : (s : Span) (o : Option Text) → LowerIn us o → There us (texts_of_each alternative_texts (fall_through s o))
  unfolding texts_of_each alternative_texts action_texts syms_texts sym_texts leaf_texts
  fall_there s none h = tt
  fall_there s (some n) h = (h, tt)

  lower_has : (own : Text) (o : Option Text) → has own us ≡ true → LowerIn us o → has (elim o [ none ↦ own | some n ↦ n ]) us ≡ true
  lower_has own none h k = h
  lower_has own (some n) h k = k

  substitute-there : (E : Text) (level : Group Graded) (g : Graded) → has level.name us ≡ true → LowerIn us level.lower → GradedWithin four wd ts g → There us (alternative_texts (substitute E level g))
  substitute-there E level g own low h =
      let xs = g.alternative.symbols in
      let f = ceiling g.side level.name (lower_name level) (occurs_in E xs) in
      alternative_there g.alternative (replace_occurrences_in E f xs 0) h
      (all_replaced_there E f (λ j. ceiling-has us g.side level.name (lower_name level) (occurs_in E xs) j own (lower_has level.name level.lower own low)) xs 0 64 h.symbols)

  -- theorem: so are those behind the name in a level's item
  pub level_there : (d : Nonterminal) (level : Group Graded) → NonterminalWithin four wd ts d → Each (GradedWithin four wd ts) level.alternatives → has level.name us ≡ true → LowerIn us level.lower
      → There us (d.args ++ texts_of_each alternative_texts (map (substitute d.name level) level.alternatives ++ fall_through d.span level.lower))
  level_there d level h gs own low =
      let As = map (substitute d.name level) level.alternatives in
      there_append us d.args (texts_of_each alternative_texts (As ++ fall_through d.span level.lower)) (names_there d.args h.args)
      (rw (texts-append alternative_texts As (fall_through d.span level.lower))
      (there_append us (texts_of_each alternative_texts As) (texts_of_each alternative_texts (fall_through d.span level.lower))
      (there_each us alternative_texts As (each-of_map (λ (a : Alternative). There us (alternative_texts a)) (substitute d.name level) level.alternatives
      (each_map (λ (g : Graded) i. substitute-there d.name level g own low i) level.alternatives gs)))
      (fall_there d.span level.lower low)))
