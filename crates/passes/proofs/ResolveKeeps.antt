-- Name resolution keeps the texts that a tree refers to, its counts and its nesting; and what was read from a tape fits. Assumes nothing.
use mathlib.Core.Path.{◌≡◌, refl, ap, ◌∙◌}
use mathlib.Core.Bool.{Bool, true, ◌&&◌}
use mathlib.Core.List.{List, [], ◌∷◌}
use mathlib.Core.Option.{Option, none, some}
use Prim.Native.Nat.{ℕ, zero, suc, ◌^◌, ◌<◌, ◌≤◌}
use borrow.Author.Tests.{lt-ltb, le-leb}
use lib.Dec.{leb, ltb}
use lib.ListN.{length}
use Rattle.parse_tree.specs.Plain.Tree.{Text, Leaf, Around, Over, Sym, Syms, leaf, around, over, nil, cons, ambiguous, bare, quoted, regex, nonterminal, lookahead, lookbehind, error, macro, group, count, Alternative, Item, item, Stage}
use Rattle.parse_tree.specs.Plain.References.{texts_of_each, leaf_texts, sym_texts, syms_texts, alternative_texts, item_texts}
use Rattle.parse_tree.specs.Working.Within.{Each, SymWithin, SymsWithin, OverWithin, AlternativeWithin, ItemWithin, StageWithin}
use Rattle.parse_tree.specs.declared.syntax.Span.{Span}
use Rattle.passes.specs.Outcome.{Tree, Outcome, yes, no}
use Rattle.passes.specs.Resolve.{Def, terminal_def, nonterminal_def, argument_def, lookup, check_condition, validate_nonterminal, rewrite_ambiguous_id, validate_leaf, validate_over, validate_symbol, validate_symbols, validate_alternatives, validate_macro_args, validate_items}
use Rattle.passes.specs.Sizes.{each, over_fits, sym_fits, syms_fit, alternative_fits, item_fits, stage_fits}
use Rattle.parse_tree.proofs.TextLaws.{and_both}
use Rattle.passes.proofs.Outcomes.{no≢yes, yes_inj, after-yes}

pub no_yes : {A : Type 0} {n : ℕ} {s : Span} {a : A} → ◌≡◌ {A = Outcome A} (no n s) (yes a) → ⊥
no_yes {A} {n} {s} {a} e = no≢yes n s a e

pub yes_as : {A : Type 0} (P : A → Type 0) {a b : A} → ◌≡◌ {A = Outcome A} (yes a) (yes b) → P a → P b
yes_as P {a} {b} e h = rw (← yes_inj a b e) h

-- ---- how many there are
pub count_kept : (G : Tree) (ps : List Text) (xs ys : Syms) → validate_symbols G ps xs ≡ yes ys → count ys ≡ count xs
unfolding validate_symbols count
count_kept G ps nil ys p = yes_as (λ zs. count zs ≡ 0) p refl
count_kept G ps (cons x xs) ys p =
    let h = after-yes (validate_symbol G ps x) _ _ p in
    let i = after-yes (validate_symbols G ps xs) _ _ h.2 in
    yes_as (λ zs. count zs ≡ suc (count xs)) i.2 (ap suc (count_kept G ps xs i.0 i.1))

pub alternatives_kept : (G : Tree) (ps : List Text) (cs bs : List Alternative) → validate_alternatives G ps cs ≡ yes bs → length bs ≡ length cs
unfolding validate_alternatives
alternatives_kept G ps [] bs p = yes_as (λ (zs : List Alternative). length zs ≡ 0) p refl
alternatives_kept G ps (c ∷ cs) bs p =
    let g = after-yes (check_condition G ps c.condition) _ _ p in
    let h = after-yes (validate_symbols G ps c.symbols) _ _ g.2 in
    let i = after-yes (validate_alternatives G ps cs) _ _ h.2 in
    yes_as (λ (zs : List Alternative). length zs ≡ suc (length cs)) i.2 (ap suc (alternatives_kept G ps cs i.0 i.1))

-- ---- what holds of leaves, and goes from what stands inside to the whole, holds of each symbol and what it is resolved to
module _ (G : Tree) (ps : List Text) (K : Sym → Sym → Type 0) (L : Syms → Syms → Type 0)
    (same : (s : Span) (l : Leaf) → K (leaf s l) (leaf s l)) (named : (s : Span) (n : Text) → K (leaf s (ambiguous n)) (leaf s (bare n)) × K (leaf s (ambiguous n)) (leaf s (nonterminal n)))
    (arounds : (s : Span) (a : Around) (x y : Sym) → K x y → K (around s a x) (around s a y)) (overs : (s : Span) (o : Over) (xs ys : Syms) → count ys ≡ count xs → L xs ys → K (over s o xs) (over s o ys))
    (none_kept : L nil nil) (more_kept : (x y : Sym) (xs ys : Syms) → K x y → L xs ys → L (cons x xs) (cons y ys)) where
  nonterminal_holds : (s : Span) (n : Text) (o : Option Def) (y : Sym) → validate_nonterminal G ps s n o ≡ yes y → K (leaf s (nonterminal n)) y
  nonterminal_holds s n none y p = absurd (no_yes p)
  nonterminal_holds s n (some terminal_def) y p = absurd (no_yes p)
  nonterminal_holds s n (some (nonterminal_def zero)) y p = yes_as (K (leaf s (nonterminal n))) p (same s (nonterminal n))
  nonterminal_holds s n (some (nonterminal_def (suc k))) y p = absurd (no_yes p)
  nonterminal_holds s n (some argument_def) y p = yes_as (K (leaf s (nonterminal n))) p (same s (nonterminal n))

  -- a 20 becomes a 21 or a 24 of the same name
  ambiguous_holds : (s : Span) (n : Text) (o : Option Def) (y : Sym) → rewrite_ambiguous_id G ps s n o ≡ yes y → K (leaf s (ambiguous n)) y
  ambiguous_holds s n none y p = absurd (no_yes p)
  ambiguous_holds s n (some terminal_def) y p = yes_as (K (leaf s (ambiguous n))) p (named s n).0
  ambiguous_holds s n (some (nonterminal_def zero)) y p = yes_as (K (leaf s (ambiguous n))) p (named s n).1
  ambiguous_holds s n (some (nonterminal_def (suc k))) y p = absurd (no_yes p)
  ambiguous_holds s n (some argument_def) y p = yes_as (K (leaf s (ambiguous n))) p (named s n).1

  leaf_holds : (s : Span) (l : Leaf) (y : Sym) → validate_leaf G ps s l ≡ yes y → K (leaf s l) y
  leaf_holds s (ambiguous n) y p = ambiguous_holds s n (lookup G ps n) y p
  leaf_holds s (bare n) y p = yes_as (K (leaf s (bare n))) p (same s (bare n))
  leaf_holds s (quoted n) y p = yes_as (K (leaf s (quoted n))) p (same s (quoted n))
  leaf_holds s (regex n) y p = yes_as (K (leaf s (regex n))) p (same s (regex n))
  leaf_holds s (nonterminal n) y p = nonterminal_holds s n (lookup G ps n) y p
  leaf_holds s lookahead y p = yes_as (K (leaf s lookahead)) p (same s lookahead)
  leaf_holds s lookbehind y p = yes_as (K (leaf s lookbehind)) p (same s lookbehind)
  leaf_holds s error y p = yes_as (K (leaf s error)) p (same s error)

  mutual
    unfolding validate_symbol validate_symbols

    sym_holds : (x y : Sym) → validate_symbol G ps x ≡ yes y → K x y
    sym_holds (leaf s l) y p = leaf_holds s l y p
    sym_holds (around s a x) y p =
        let h = after-yes (validate_symbol G ps x) _ _ p in
        yes_as (K (around s a x)) h.2 (arounds s a x h.0 (sym_holds x h.0 h.1))
    sym_holds (over s o xs) y p =
        let g = after-yes (validate_over G ps s o (count xs)) _ _ p in
        let h = after-yes (validate_symbols G ps xs) _ _ g.2 in
        yes_as (K (over s o xs)) h.2 (overs s o xs h.0 (count_kept G ps xs h.0 h.1) (syms_hold xs h.0 h.1))

    pub syms_hold : (xs ys : Syms) → validate_symbols G ps xs ≡ yes ys → L xs ys
    syms_hold nil ys p = yes_as (L nil) p none_kept
    syms_hold (cons x xs) ys p =
        let g = after-yes (validate_symbol G ps x) _ _ p in
        let h = after-yes (validate_symbols G ps xs) _ _ g.2 in
        yes_as (L (cons x xs)) h.2 (more_kept x g.0 xs h.0 (sym_holds x g.0 g.1) (syms_hold xs h.0 h.1))

-- ---- symbols
record KeptSym (x y : Sym) : Type 0 where
  texts : sym_texts y ≡ sym_texts x
  fits : (left : ℕ) → sym_fits y left ≡ sym_fits x left

record KeptSyms (xs ys : Syms) : Type 0 where
  texts : syms_texts ys ≡ syms_texts xs
  fits : (left : ℕ) → syms_fit ys left ≡ syms_fit xs left

-- a leaf with the same text
leaf_kept : (s : Span) (l k : Leaf) → leaf_texts k ≡ leaf_texts l → KeptSym (leaf s l) (leaf s k)
unfolding sym_texts
leaf_kept s l k p = record { texts = p; fits = go }
  where
    go : (left : ℕ) → sym_fits (leaf s k) left ≡ sym_fits (leaf s l) left
    go zero = refl
    go (suc left) = refl

named_kept : (s : Span) (n : Text) → KeptSym (leaf s (ambiguous n)) (leaf s (bare n)) × KeptSym (leaf s (ambiguous n)) (leaf s (nonterminal n))
unfolding leaf_texts
named_kept s n = (leaf_kept s (ambiguous n) (bare n) refl, leaf_kept s (ambiguous n) (nonterminal n) refl)

around_kept : (s : Span) (a : Around) (x y : Sym) → KeptSym x y → KeptSym (around s a x) (around s a y)
unfolding sym_texts
around_kept s a x y h = record { texts = rw h.texts refl; fits = go }
  where
    go : (left : ℕ) → sym_fits (around s a y) left ≡ sym_fits (around s a x) left
    go zero = refl
    go (suc left) = h.fits left

over_kept : (s : Span) (o : Over) (xs ys : Syms) → count ys ≡ count xs → KeptSyms xs ys → KeptSym (over s o xs) (over s o ys)
unfolding sym_texts
over_kept s o xs ys n h = record { texts = rw h.texts refl; fits = go }
  where
    go : (left : ℕ) → sym_fits (over s o ys) left ≡ sym_fits (over s o xs) left
    go zero = refl
    go (suc left) = rw (n, h.fits left) refl

none_kept : KeptSyms nil nil
none_kept = record { texts = refl; fits = λ left. refl }

more_kept : (x y : Sym) (xs ys : Syms) → KeptSym x y → KeptSyms xs ys → KeptSyms (cons x xs) (cons y ys)
unfolding syms_texts
more_kept x y xs ys i j = record { texts = rw (i.texts, j.texts) refl; fits = λ left. rw (i.fits left, j.fits left) refl }

module _ (G : Tree) (ps : List Text) where
  syms_keep : (xs ys : Syms) → validate_symbols G ps xs ≡ yes ys → KeptSyms xs ys
  syms_keep = syms_hold G ps KeptSym KeptSyms (λ s l. leaf_kept s l l refl) named_kept around_kept over_kept none_kept more_kept

  -- ---- alternatives
  pub alternatives_keep : (as' bs : List Alternative) → validate_alternatives G ps as' ≡ yes bs
      → (texts_of_each alternative_texts bs ≡ texts_of_each alternative_texts as') × (each alternative_fits bs ≡ each alternative_fits as')
  unfolding validate_alternatives texts_of_each alternative_texts
  alternatives_keep [] bs p = yes_as (λ zs. (texts_of_each alternative_texts zs ≡ []) × (each alternative_fits zs ≡ true)) p (refl, refl)
  alternatives_keep (a ∷ rest) bs p =
      let g = after-yes (check_condition G ps a.condition) _ _ p in
      let h = after-yes (validate_symbols G ps a.symbols) _ _ g.2 in
      let i = after-yes (validate_alternatives G ps rest) _ _ h.2 in
      let j = syms_keep a.symbols h.0 h.1 in
      let (u, v) = alternatives_keep rest i.0 i.1 in
      yes_as (λ zs. (texts_of_each alternative_texts zs ≡ texts_of_each alternative_texts (a ∷ rest)) × (each alternative_fits zs ≡ each alternative_fits (a ∷ rest))) i.2
      (rw (j.texts, u) refl, rw (count_kept G ps a.symbols h.0 h.1, j.fits 64, v) refl)

-- ---- items
module _ (G : Tree) where
  items_keep : (is R : List Item) → validate_items G is ≡ yes R → (texts_of_each item_texts R ≡ texts_of_each item_texts is) × (each item_fits R ≡ each item_fits is)
  unfolding validate_items texts_of_each item_texts
  items_keep [] R p = yes_as (λ zs. (texts_of_each item_texts zs ≡ []) × (each item_fits zs ≡ true)) p (refl, refl)
  items_keep (item d ∷ rest) R p =
      let g = after-yes (validate_macro_args d) _ _ p in
      let h = after-yes (validate_alternatives G d.args d.alternatives) _ _ g.2 in
      let i = after-yes (validate_items G rest) _ _ h.2 in
      let (u, v) = alternatives_keep G d.args d.alternatives h.0 h.1 in
      let (x, y) = items_keep rest i.0 i.1 in
      yes_as (λ zs. (texts_of_each item_texts zs ≡ texts_of_each item_texts (item d ∷ rest)) × (each item_fits zs ≡ each item_fits (item d ∷ rest))) i.2
      (rw (u, x) refl, rw (alternatives_kept G d.args d.alternatives h.0 h.1, v, y) refl)
  items_keep (Item.terminal s o t ∷ rest) R p =
      let i = after-yes (validate_items G rest) _ _ p in
      let (x, y) = items_keep rest i.0 i.1 in
      yes_as (λ zs. (texts_of_each item_texts zs ≡ texts_of_each item_texts (Item.terminal s o t ∷ rest)) × (each item_fits zs ≡ each item_fits (Item.terminal s o t ∷ rest))) i.2
      (rw x refl, y)

  -- the texts, in their order
  pub resolve-keeps : (is R : List Item) → validate_items G is ≡ yes R → texts_of_each item_texts R ≡ texts_of_each item_texts is
  resolve-keeps is R p = (items_keep is R p).0

  pub resolve-fits : (is R : List Item) → validate_items G is ≡ yes R → each item_fits is ≡ true → each item_fits R ≡ true
  resolve-fits is R p h = (items_keep is R p).1 ∙ h

-- ---- what is within a tape's limits fits
all_fit : {A : Type 0} (P : A → Type 0) (f : A → Bool) → ((x : A) → P x → f x ≡ true) → (xs : List A) → Each P xs → each f xs ≡ true
all_fit P f h [] e = refl
all_fit P f h (x ∷ xs) e = and_both (f x) (each f xs) (h x e.0) (all_fit P f h xs e.1)

module _ (four : Bool) (w : ℕ) (ts : List Text) where
  over_fits_lem : (o : Over) (k : ℕ) → OverWithin four w ts o k → over_fits o k ≡ true
  over_fits_lem (macro n) k h = and_both (leb 1 k) (ltb k 256) (le-leb 1 k h.1) (lt-ltb k 256 h.2)
  over_fits_lem group k h = lt-ltb k 65536 h

  mutual
    sym_fits_lem : (x : Sym) (left : ℕ) → SymWithin four w ts x left → sym_fits x left ≡ true
    sym_fits_lem (leaf s l) zero h = absurd h
    sym_fits_lem (leaf s l) (suc left) h = refl
    sym_fits_lem (around s a x) zero h = absurd h
    sym_fits_lem (around s a x) (suc left) h = sym_fits_lem x left h.2
    sym_fits_lem (over s o xs) zero h = absurd h
    sym_fits_lem (over s o xs) (suc left) h = and_both (over_fits o (count xs)) (syms_fit xs left) (over_fits_lem o (count xs) h.1) (syms_fit_lem xs left h.2)

    syms_fit_lem : (xs : Syms) (left : ℕ) → SymsWithin four w ts xs left → syms_fit xs left ≡ true
    syms_fit_lem nil left h = refl
    syms_fit_lem (cons x xs) left h = and_both (sym_fits x left) (syms_fit xs left) (sym_fits_lem x left h.0) (syms_fit_lem xs left h.1)

  alternative_fits_lem : (a : Alternative) → AlternativeWithin four w ts a → alternative_fits a ≡ true
  alternative_fits_lem a h =
      and_both (ltb (length a.attributes) 256) (ltb (count a.symbols) 65536 && syms_fit a.symbols 64) (lt-ltb (length a.attributes) 256 h.few)
      (and_both (ltb (count a.symbols) 65536) (syms_fit a.symbols 64) (lt-ltb (count a.symbols) 65536 h.fewer) (syms_fit_lem a.symbols 64 h.symbols))

  pub item_fits_lem : (x : Item) → ItemWithin four w ts x → item_fits x ≡ true
  item_fits_lem (item d) h =
      and_both (ltb (length d.args) 256) (ltb (length d.alternatives) 65536 && each alternative_fits d.alternatives) (lt-ltb (length d.args) 256 h.few)
      (and_both (ltb (length d.alternatives) 65536) (each alternative_fits d.alternatives) (lt-ltb (length d.alternatives) 65536 h.fewer)
      (all_fit (AlternativeWithin four w ts) alternative_fits alternative_fits_lem d.alternatives h.alternatives))
  item_fits_lem (Item.terminal s o t) h = refl

pub stage_fits_lem : (four : Bool) (w : ℕ) (g : Stage) → StageWithin four w g → length g.atoms ≤ 256 ^ w → stage_fits w g ≡ true
unfolding stage_fits
stage_fits_lem four w g h l =
    and_both (leb (length g.atoms) (256 ^ w)) (each (λ (t : Text). ltb (length t) 65536) g.atoms && each item_fits g.items) (le-leb (length g.atoms) (256 ^ w) l)
    (and_both (each (λ (t : Text). ltb (length t) 65536) g.atoms) (each item_fits g.items)
    (all_fit (λ (t : Text). length t < 65536) (λ (t : Text). ltb (length t) 65536) (λ t p. lt-ltb (length t) 65536 p) g.atoms h.short)
    (all_fit (ItemWithin four w g.atoms) item_fits (item_fits_lem four w g.atoms) g.items h.items))
