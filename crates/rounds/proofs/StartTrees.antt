-- What is pushed of sound items whose macro calls are as resolving leaves them: no print is a built-in text, and macros are called with as many arguments. Assumes nothing.
use mathlib.Core.Path.{◌≡◌, refl, sym, ap, ◌∙◌, subst}
use mathlib.Core.Bool.{Bool, true, false, cond, false≢true}
use mathlib.Core.List.{List, [], ◌∷◌}
use Prim.Native.Nat.{suc}
use Rattle.parse_tree.specs.Plain.Tree.{Text, Leaf, Around, Over, Sym, Syms, count, ambiguous, bare, quoted, regex, nonterminal, lookahead, lookbehind, error, repeat, choose, name, macro, group, leaf, around, over, nil, cons, Alternative, Item, item}
use Rattle.parse_tree.specs.Plain.Texts.{has}
use Rattle.parse_tree.specs.Plain.Display.{print}
use Rattle.parse_tree.specs.Working.Within.{Each}
use Rattle.parse_tree.specs.declared.syntax.Span.{Span}
use Rattle.parse_tree.proofs.ReadingLaws.{each_append}
use Rattle.passes.specs.Outcome.{Tree}
use Rattle.passes.specs.Macros.{Pending, symbol_of, MacroExpander, replace_items}
use Rattle.laws.specs.Keys.{built_ins, Expands, SymSound, SymsSound, AlternativeSound, ItemSound}
use Rattle.laws.proofs.Prints.{print-built}
use Rattle.replacing.specs.Trees.{renamed_all, inner, is_key, own_leaf, own_around, expanded, expanded_all, enter, enter_all, expanded_alternatives, expanded_item, expanded_items}
use Rattle.replacing.proofs.TreesMean.{print-inner, replace_items_is}
use Rattle.macro_expand.specs.Drain.{OverCalls, CallsMacro}
use Rattle.rounds.specs.Calls.{SymCalls, SymsCall, AlternativeCalls, ItemCalls}

-- ---- symbols that are expanded
pub key_expands : (y : Sym) → is_key y ≡ true → Expands y
key_expands (leaf s (ambiguous n)) h = absurd (false≢true h)
key_expands (leaf s (bare n)) h = absurd (false≢true h)
key_expands (leaf s (quoted t)) h = absurd (false≢true h)
key_expands (leaf s (regex t)) h = absurd (false≢true h)
key_expands (leaf s (nonterminal n)) h = absurd (false≢true h)
key_expands (leaf s lookahead) h = tt
key_expands (leaf s lookbehind) h = tt
key_expands (leaf s error) h = absurd (false≢true h)
key_expands (around s (repeat o) x) h = tt
key_expands (around s choose x) h = absurd (false≢true h)
key_expands (around s (name m n) x) h = absurd (false≢true h)
key_expands (over s o xs) h = tt

-- renaming keeps how many there are
count-renamed : (xs : Syms) → count (renamed_all xs) ≡ count xs
unfolding count renamed_all
count-renamed nil = refl
count-renamed (cons x xs) = ap suc (count-renamed xs)

module _ (G : Tree) where
  -- ---- calls look at a symbol's own command and at how many symbols stand inside it
  over_there : (o : Over) (xs : Syms) → OverCalls G o xs → OverCalls G o (renamed_all xs)
  over_there (macro m) xs (D, e, n) = (D, e, n ∙ sym (count-renamed xs))
  over_there group xs h = tt

  over_back : (o : Over) (xs : Syms) → OverCalls G o (renamed_all xs) → OverCalls G o xs
  over_back (macro m) xs (D, e, n) = (D, e, n ∙ count-renamed xs)
  over_back group xs h = tt

  inner-calls : (y : Sym) → is_key y ≡ true → CallsMacro G y → CallsMacro G (symbol_of (inner y))
  unfolding inner
  inner-calls (leaf s (ambiguous n)) k h = absurd (false≢true k)
  inner-calls (leaf s (bare n)) k h = absurd (false≢true k)
  inner-calls (leaf s (quoted t)) k h = absurd (false≢true k)
  inner-calls (leaf s (regex t)) k h = absurd (false≢true k)
  inner-calls (leaf s (nonterminal n)) k h = absurd (false≢true k)
  inner-calls (leaf s lookahead) k h = tt
  inner-calls (leaf s lookbehind) k h = tt
  inner-calls (leaf s error) k h = absurd (false≢true k)
  inner-calls (around s (repeat o) x) k h = tt
  inner-calls (around s choose x) k h = absurd (false≢true k)
  inner-calls (around s (name m n) x) k h = absurd (false≢true k)
  inner-calls (over s o xs) k h = over_there o xs h

  -- theorem: a symbol calls macros as it is pushed
  pub calls_inner : (y : Sym) → CallsMacro G (symbol_of (inner y)) → CallsMacro G y
  unfolding inner
  calls_inner (leaf s l) h = tt
  calls_inner (around s a x) h = tt
  calls_inner (over s o xs) h = over_back o xs h

  -- ---- what is pushed
  abbrev pub Fine : Pending → Type 0
  Fine p = (has (print (symbol_of p)) built_ins ≡ false) × CallsMacro G (symbol_of p)

  abbrev AllFine : List Sym → Type 0
  AllFine xs = Each (λ x. Fine (inner x)) xs

  -- one of the symbols
  key_fine : (x : Sym) → is_key x ≡ true → SymSound x → CallsMacro G x → Fine (inner x)
  key_fine x k h c = (ap (λ (t : Text). has t built_ins) (print-inner x k) ∙ print-built x (key_expands x k) h, inner-calls x k c)

  leaf_fine : (s : Span) (l : Leaf) → SymSound (leaf s l) → AllFine (own_leaf s l)
  leaf_fine s (ambiguous n) h = tt
  leaf_fine s (bare n) h = tt
  leaf_fine s (quoted t) h = tt
  leaf_fine s (regex t) h = tt
  leaf_fine s (nonterminal n) h = tt
  leaf_fine s lookahead h = (key_fine (leaf s lookahead) refl h tt, tt)
  leaf_fine s lookbehind h = (key_fine (leaf s lookbehind) refl h tt, tt)
  leaf_fine s error h = tt

  around_fine : (s : Span) (a : Around) (x : Sym) → SymSound (around s a x) → AllFine (own_around s a x)
  around_fine s (repeat o) x h = (key_fine (around s (repeat o) x) refl h tt, tt)
  around_fine s choose x h = tt
  around_fine s (name m n) x h = tt

  mutual
    unfolding expanded

    sym_fine : (x : Sym) → SymSound x → SymCalls G x → AllFine (expanded x)
    sym_fine (leaf s l) h c = leaf_fine s l h
    sym_fine (around s a x) h c = each_append (λ y. Fine (inner y)) (expanded x) (own_around s a x) (sym_fine x h.1 c) (around_fine s a x h)
    sym_fine (over s o xs) h c = each_append (λ y. Fine (inner y)) (expanded_all xs) (over s o xs ∷ []) (syms_fine xs h.1 c.1) (key_fine (over s o xs) refl h c.0, tt)

    syms_fine : (xs : Syms) → SymsSound xs → SymsCall G xs → AllFine (expanded_all xs)
    syms_fine nil h c = tt
    syms_fine (cons x xs) h c = each_append (λ y. Fine (inner y)) (expanded x) (expanded_all xs) (sym_fine x h.0 c.0) (syms_fine xs h.1 c.1)

  alternatives_fine : (as' : List Alternative) → Each AlternativeSound as' → Each (AlternativeCalls G) as' → AllFine (expanded_alternatives as')
  unfolding expanded_alternatives
  alternatives_fine [] h c = tt
  alternatives_fine (a ∷ rest) h c = each_append (λ y. Fine (inner y)) (expanded_all a.symbols) (expanded_alternatives rest) (syms_fine a.symbols h.0 c.0) (alternatives_fine rest h.1 c.1)

  items_fine : (is : List Item) → Each ItemSound is → Each (ItemCalls G) is → AllFine (expanded_items is)
  unfolding expanded_items expanded_item
  items_fine [] h c = tt
  items_fine (item d ∷ rest) h c = each_append (λ y. Fine (inner y)) (expanded_alternatives d.alternatives) (expanded_items rest) (alternatives_fine d.alternatives h.0 c.0) (items_fine rest h.1 c.1)
  items_fine (Item.terminal s o t ∷ rest) h c = items_fine rest h.1 c.1

  -- what is on the pile was there, or is one of them
  enter-fine : (xs : List Sym) (σ : MacroExpander) → AllFine xs → Each Fine σ.pile → Each Fine (enter_all xs σ).pile
  unfolding enter_all enter
  enter-fine [] σ h p = p
  enter-fine (x ∷ xs) σ h p = enter-fine xs (enter x σ) h.1 (go (has (print x) σ.keys))
    where
      go : (b : Bool) → Each Fine (cond b σ (record { keys = print x ∷ σ.keys; pile = inner x ∷ σ.pile })).pile
      go true = p
      go false = (h.0, p)

  -- theorem: all that is pushed of the items
  pub pushed-fine : (is : List Item) (K : List Text) → Each ItemSound is → Each (ItemCalls G) is → Each Fine (replace_items is (record { keys = K; pile = [] })).1.pile
  pushed-fine is K h c =
      let σ : MacroExpander = record { keys = K; pile = [] } in
      subst (λ (q : List Item × MacroExpander). Each Fine q.1.pile) (sym (replace_items_is is σ)) (enter-fine (expanded_items is) σ (items_fine is h c) tt)
