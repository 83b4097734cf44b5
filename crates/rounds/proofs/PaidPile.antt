-- The pile that replacing leaves: what stands inside its symbols, and the replaced items, have texts that were there and keys of the pile. Assumes nothing.
use mathlib.Core.Path.{◌≡◌, refl, sym, ap, ◌∙◌, subst}
use mathlib.Core.Bool.{Bool, true, false, cond, ◌||◌}
use mathlib.Core.Logic.{◌⊎◌, inl, inr}
use mathlib.Core.List.{List, [], ◌∷◌, ◌++◌, map}
use Rattle.parse_tree.specs.Plain.Tree.{Text, Leaf, Around, Over, Sym, Syms, ambiguous, bare, quoted, regex, nonterminal, lookahead, lookbehind, error, repeat, choose, name, leaf, around, over, nil, cons, Alternative, Item, item, conditions}
use Rattle.parse_tree.specs.Plain.Texts.{has}
use Rattle.parse_tree.specs.Plain.References.{texts_of_each, leaf_texts, around_texts, over_texts, sym_texts, syms_texts, action_texts, attribute_texts, condition_texts, alternative_texts, item_texts}
use Rattle.parse_tree.specs.Plain.Display.{print}
use Rattle.parse_tree.specs.Working.Within.{Each}
use Rattle.parse_tree.specs.declared.syntax.Span.{Span}
use Rattle.parse_tree.proofs.ReadingLaws.{each_append, each_all}
use Rattle.parse_tree.proofs.AmongLaws.{has_here, has-later}
use Rattle.passes.specs.Macros.{Pending, MacroExpander, replace_items}
use Rattle.replacing.specs.Trees.{renamed_leaf, renamed_around, renamed, renamed_all, inner, own_leaf, own_around, expanded, expanded_all, enter, enter_all, renamed_alternatives, expanded_alternatives, renamed_item, expanded_item, renamed_items, expanded_items}
use Rattle.replacing.proofs.TreesMean.{Keys, items_keys, enter-keys, replace_items_is}
use Rattle.replacing.proofs.NumbersMean.{has-append}
use Rattle.appending.proofs.SymbolsTrees.{each-parts}
use Rattle.rounds.specs.Paid.{pending_key, inside_texts, Known, PileKnown, TreeKnown, KeysKnown}

-- ---- P holds of the texts of symbols, and of the prints of those that are expanded
module _ (P : Text → Type 0) where
  abbrev Printed : List Sym → Type 0
  Printed xs = Each (λ x. P (print x)) xs

  abbrev Inside : List Sym → Type 0
  Inside xs = Each (λ x. Each P (inside_texts (inner x))) xs

  leaf_renamed : (s : Span) (l : Leaf) → Each P (leaf_texts l) → Printed (own_leaf s l) → Each P (sym_texts (renamed_leaf s l))
  unfolding sym_texts leaf_texts
  leaf_renamed s (ambiguous n) h k = h
  leaf_renamed s (bare n) h k = h
  leaf_renamed s (quoted t) h k = h
  leaf_renamed s (regex t) h k = h
  leaf_renamed s (nonterminal n) h k = h
  leaf_renamed s lookahead h k = (k.0, tt)
  leaf_renamed s lookbehind h k = (k.0, tt)
  leaf_renamed s error h k = h

  around_renamed : (s : Span) (a : Around) (x y : Sym) → Each P (around_texts a) → Each P (sym_texts y) → Printed (own_around s a x) → Each P (sym_texts (renamed_around s a x y))
  unfolding sym_texts leaf_texts around_texts
  around_renamed s (repeat o) x y h i k = (k.0, tt)
  around_renamed s choose x y h i k = i
  around_renamed s (name m n) x y h i k = (h.0, i)

  mutual
    unfolding sym_texts leaf_texts renamed expanded

    sym_renamed : (x : Sym) → Each P (sym_texts x) → Printed (expanded x) → Each P (sym_texts (renamed x))
    sym_renamed (leaf s l) h k = leaf_renamed s l h k
    sym_renamed (around s a x) h k =
        let (i, j) = each-parts P (around_texts a) (sym_texts x) h in
        let (l, m) = each-parts (λ y. P (print y)) (expanded x) (own_around s a x) k in
        around_renamed s a x (renamed x) i (sym_renamed x j l) m
    sym_renamed (over s o xs) h k = let (l, m) = each-parts (λ y. P (print y)) (expanded_all xs) (over s o xs ∷ []) k in (m.0, tt)

    syms_renamed : (xs : Syms) → Each P (syms_texts xs) → Printed (expanded_all xs) → Each P (syms_texts (renamed_all xs))
    syms_renamed nil h k = tt
    syms_renamed (cons x xs) h k =
        let (i, j) = each-parts P (sym_texts x) (syms_texts xs) h in
        let (l, m) = each-parts (λ y. P (print y)) (expanded x) (expanded_all xs) k in
        each_append P (sym_texts (renamed x)) (syms_texts (renamed_all xs)) (sym_renamed x i l) (syms_renamed xs j m)

  -- ---- what is pushed
  leaf_inside : (s : Span) (l : Leaf) → Inside (own_leaf s l)
  unfolding inner inside_texts
  leaf_inside s (ambiguous n) = tt
  leaf_inside s (bare n) = tt
  leaf_inside s (quoted t) = tt
  leaf_inside s (regex t) = tt
  leaf_inside s (nonterminal n) = tt
  leaf_inside s lookahead = (tt, tt)
  leaf_inside s lookbehind = (tt, tt)
  leaf_inside s error = tt

  around_inside : (s : Span) (a : Around) (x : Sym) → Each P (sym_texts (renamed x)) → Inside (own_around s a x)
  unfolding inner inside_texts
  around_inside s (repeat o) x h = (h, tt)
  around_inside s choose x h = tt
  around_inside s (name m n) x h = tt

  over_inside : (s : Span) (o : Over) (xs : Syms) → Each P (syms_texts (renamed_all xs)) → Each P (inside_texts (inner (over s o xs)))
  unfolding inner inside_texts
  over_inside s o xs h = h

  mutual
    unfolding sym_texts expanded

    sym_inside : (x : Sym) → Each P (sym_texts x) → Printed (expanded x) → Inside (expanded x)
    sym_inside (leaf s l) h k = leaf_inside s l
    sym_inside (around s a x) h k =
        let (i, j) = each-parts P (around_texts a) (sym_texts x) h in
        let (l, m) = each-parts (λ y. P (print y)) (expanded x) (own_around s a x) k in
        each_append (λ y. Each P (inside_texts (inner y))) (expanded x) (own_around s a x) (sym_inside x j l) (around_inside s a x (sym_renamed x j l))
    sym_inside (over s o xs) h k =
        let (i, j) = each-parts P (over_texts o) (syms_texts xs) h in
        let (l, m) = each-parts (λ y. P (print y)) (expanded_all xs) (over s o xs ∷ []) k in
        each_append (λ y. Each P (inside_texts (inner y))) (expanded_all xs) (over s o xs ∷ []) (syms_inside xs j l) (over_inside s o xs (syms_renamed xs j l), tt)

    syms_inside : (xs : Syms) → Each P (syms_texts xs) → Printed (expanded_all xs) → Inside (expanded_all xs)
    syms_inside nil h k = tt
    syms_inside (cons x xs) h k =
        let (i, j) = each-parts P (sym_texts x) (syms_texts xs) h in
        let (l, m) = each-parts (λ y. P (print y)) (expanded x) (expanded_all xs) k in
        each_append (λ y. Each P (inside_texts (inner y))) (expanded x) (expanded_all xs) (sym_inside x i l) (syms_inside xs j m)

  -- ---- alternatives and items: renamed, and what is pushed of them
  alternatives_known : (as' : List Alternative) → Each P (texts_of_each alternative_texts as') → Printed (expanded_alternatives as')
      → Each P (texts_of_each alternative_texts (renamed_alternatives as')) × Inside (expanded_alternatives as')
  unfolding texts_of_each alternative_texts renamed_alternatives expanded_alternatives
  alternatives_known [] h k = (tt, tt)
  alternatives_known (a ∷ rest) h k =
      let as' = texts_of_each attribute_texts a.attributes in
      let cs = texts_of_each condition_texts (conditions a.condition) in
      let xs = syms_texts a.symbols in
      let ys = syms_texts (renamed_all a.symbols) in
      let acts = action_texts a.action in
      let (i, j) = each-parts P (acts ++ (as' ++ (cs ++ xs))) (texts_of_each alternative_texts rest) h in
      let (l, m) = each-parts (λ y. P (print y)) (expanded_all a.symbols) (expanded_alternatives rest) k in
      let (p, q) = each-parts P acts (as' ++ (cs ++ xs)) i in
      let (r, t) = each-parts P as' (cs ++ xs) q in
      let (u, v) = each-parts P cs xs t in
      let (y, z) = alternatives_known rest j m in (
        each_append P (acts ++ (as' ++ (cs ++ ys))) (texts_of_each alternative_texts (renamed_alternatives rest))
            (each_append P acts (as' ++ (cs ++ ys)) p (each_append P as' (cs ++ ys) r (each_append P cs ys u (syms_renamed a.symbols v l)))) y,
        each_append (λ w. Each P (inside_texts (inner w))) (expanded_all a.symbols) (expanded_alternatives rest) (syms_inside a.symbols v l) z,
      )

  items_known : (is : List Item) → Each (λ i. Each P (item_texts i)) is → Printed (expanded_items is) → Each (λ i. Each P (item_texts i)) (renamed_items is) × Inside (expanded_items is)
  unfolding item_texts renamed_items renamed_item expanded_items expanded_item
  items_known [] h k = (tt, tt)
  items_known (item d ∷ rest) h k =
      let (i, j) = each-parts P d.args (texts_of_each alternative_texts d.alternatives) h.0.1 in
      let (l, m) = each-parts (λ y. P (print y)) (expanded_alternatives d.alternatives) (expanded_items rest) k in
      let (p, q) = alternatives_known d.alternatives j l in
      let (y, z) = items_known rest h.1 m in (
        ((h.0.0, each_append P d.args (texts_of_each alternative_texts (renamed_alternatives d.alternatives)) i p), y),
        each_append (λ w. Each P (inside_texts (inner w))) (expanded_alternatives d.alternatives) (expanded_items rest) q z,
      )
  items_known (Item.terminal s o t ∷ rest) h k = let (y, z) = items_known rest h.1 k in ((h.0, y), z)

-- ---- what was entered
keys_stay : (t : Text) (xs : List Sym) (σ : MacroExpander) → has t σ.keys ≡ true → has t (enter_all xs σ).keys ≡ true
unfolding enter_all enter
keys_stay t [] σ h = h
keys_stay t (x ∷ xs) σ h = keys_stay t xs (enter x σ) (go (has (print x) σ.keys))
  where
    go : (b : Bool) → has t (cond b σ (record { keys = print x ∷ σ.keys; pile = inner x ∷ σ.pile })).keys ≡ true
    go true = h
    go false = has-later t (print x) σ.keys h

enter-has : (xs : List Sym) (σ : MacroExpander) → Each (λ x. has (print x) (enter_all xs σ).keys ≡ true) xs
unfolding enter_all enter
enter-has [] σ = tt
enter-has (x ∷ xs) σ = (keys_stay (print x) xs (enter x σ) (go (has (print x) σ.keys) refl), enter-has xs (enter x σ))
  where
    go : (b : Bool) → has (print x) σ.keys ≡ b → has (print x) (cond b σ (record { keys = print x ∷ σ.keys; pile = inner x ∷ σ.pile })).keys ≡ true
    go true e = e
    go false e = has_here (print x) σ.keys

enter-pile : (Q : Pending → Type 0) (xs : List Sym) (σ : MacroExpander) → Each (λ x. Q (inner x)) xs → Each Q σ.pile → Each Q (enter_all xs σ).pile
unfolding enter_all enter
enter-pile Q [] σ h p = p
enter-pile Q (x ∷ xs) σ h p = enter-pile Q xs (enter x σ) h.1 (go (has (print x) σ.keys))
  where
    go : (b : Bool) → Each Q (cond b σ (record { keys = print x ∷ σ.keys; pile = inner x ∷ σ.pile })).pile
    go true = p
    go false = (h.0, p)

pub has_either : (t : Text) (xs ys : List Text) → has t (xs ++ ys) ≡ true → (has t xs ≡ true) ⊎ (has t ys ≡ true)
has_either t xs ys h = go (has t xs) refl (sym (has-append t xs ys) ∙ h)
  where
    go : (b : Bool) → has t xs ≡ b → (b || has t ys) ≡ true → (has t xs ≡ true) ⊎ (has t ys ≡ true)
    go true e k = inl e
    go false e k = inr k

-- ---- replacing, where the keys of the round's start are K
module _ (is : List Item) (K ts : List Text) (f : KeysKnown ts K) where
  abbrev σ : MacroExpander
  σ = record { keys = K; pile = [] }

  abbrev τ : MacroExpander
  τ = enter_all (expanded_items is) σ

  keys_are : τ.keys ≡ map pending_key τ.pile ++ K
  keys_are = enter-keys K (expanded_items is) σ (items_keys is) refl

  printed : (xs : List Sym) → Keys xs → Each (λ x. has (print x) τ.keys ≡ true) xs → Each (λ x. Known ts (map pending_key τ.pile) (print x)) xs
  printed [] k h = tt
  printed (x ∷ xs) k h = (go (has_either (print x) (map pending_key τ.pile) K (ap (has (print x)) (sym keys_are) ∙ h.0)), printed xs k.1 h.1)
    where
      go : (has (print x) (map pending_key τ.pile) ≡ true) ⊎ (has (print x) K ≡ true) → Known ts (map pending_key τ.pile) (print x)
      go (inl e) = inr e
      go (inr e) = inl (f (print x) (record { symbol = x; own = k.0; is = refl }) e)

  -- q are the replaced items and the expander
  abbrev Leaves : List Item × MacroExpander → Type 0
  Leaves q = Each (λ i. Each (Known ts (map pending_key q.1.pile)) (item_texts i)) q.0 × PileKnown ts q.1.pile × (q.1.keys ≡ map pending_key q.1.pile ++ K)

  -- theorem
  pub replaced_known : TreeKnown ts is → Leaves (replace_items is σ)
  replaced_known h =
      let P = Known ts (map pending_key τ.pile) in
      let there = each_all (λ i. Each (λ (t : Text). has t ts ≡ true) (item_texts i)) (λ i. Each P (item_texts i)) (λ i k. each_all (λ (t : Text). has t ts ≡ true) P (λ t j. inl j) (item_texts i) k) is h in
      let (y, z) = items_known P is there (printed (expanded_items is) (items_keys is) (enter-has (expanded_items is) σ)) in
      subst Leaves (sym (replace_items_is is σ)) (y, enter-pile (λ p. Each P (inside_texts p)) (expanded_items is) σ z tt, keys_are)
