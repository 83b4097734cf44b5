-- What replacing keeps of items: that they are within bounds; and where soundness of items starts. Assumes nothing.
use mathlib.Core.Path.{◌≡◌, refl, ap, ◌∙◌}
use mathlib.Core.Bool.{Bool, true, false, ◌&&◌, false≢true}
use mathlib.Core.List.{List, [], ◌∷◌}
use Prim.Native.Nat.{ℕ, zero, suc}
use lib.Dec.{ltb}
use lib.ListN.{length}
use Rattle.parse_tree.specs.Plain.Tree.{Text, Leaf, Sym, Syms, ambiguous, bare, quoted, regex, nonterminal, lookahead, lookbehind, error, repeat, choose, name, leaf, around, over, nil, cons, count, Alternative, Item, item}
use Rattle.parse_tree.specs.Working.Within.{Each, ItemWithin, AlternativeWithin}
use Rattle.parse_tree.specs.declared.syntax.Span.{Span}
use Rattle.passes.specs.Sizes.{sym_fits, syms_fit, alternative_fits, item_fits, each}
use Rattle.passes.specs.Macros.{MacroExpander, replace_items}
use Rattle.laws.specs.Keys.{AlternativeSound, ItemSound}
use Rattle.laws.proofs.Keys.{within_all_sound}
use Rattle.replacing.specs.Trees.{renamed, renamed_all, renamed_alternatives, renamed_item, renamed_items}
use Rattle.replacing.proofs.TreesMean.{replace_items_is}
use Rattle.macro_expand.proofs.GroupTrees.{renamed_count}

-- ---- both of two tests
both_true : (a b c d : Bool) → (a ≡ true → c ≡ true) → (b ≡ true → d ≡ true) → a && b ≡ true → c && d ≡ true
both_true true b c d f g e = let z = f refl in let y = g e in rw (z, y) refl
both_true false b c d f g e = absurd (false≢true e)

-- ---- symbols written again are nested no deeper
leaf_kept : (s : Span) (l : Leaf) (k : ℕ) → sym_fits (renamed (leaf s l)) (suc k) ≡ true
unfolding renamed
leaf_kept s (ambiguous x) k = refl
leaf_kept s (bare x) k = refl
leaf_kept s (quoted x) k = refl
leaf_kept s (regex x) k = refl
leaf_kept s (nonterminal x) k = refl
leaf_kept s lookahead k = refl
leaf_kept s lookbehind k = refl
leaf_kept s error k = refl

symbol_kept : (x : Sym) (k : ℕ) → sym_fits x k ≡ true → sym_fits (renamed x) k ≡ true
unfolding renamed
symbol_kept (leaf s l) zero e = absurd (false≢true e)
symbol_kept (leaf s l) (suc k) e = leaf_kept s l k
symbol_kept (around s a x) zero e = absurd (false≢true e)
symbol_kept (around s (repeat o) x) (suc k) e = refl
symbol_kept (around s choose x) (suc k) e = symbol_kept x k e
symbol_kept (around s (name m n) x) (suc k) e = symbol_kept x k e
symbol_kept (over s o xs) zero e = absurd (false≢true e)
symbol_kept (over s o xs) (suc k) e = refl

symbols_kept : (xs : Syms) (k : ℕ) → syms_fit xs k ≡ true → syms_fit (renamed_all xs) k ≡ true
unfolding renamed_all
symbols_kept nil k e = refl
symbols_kept (cons x xs) k e = both_true (sym_fits x k) (syms_fit xs k) (sym_fits (renamed x) k) (syms_fit (renamed_all xs) k) (symbol_kept x k) (symbols_kept xs k) e

alternatives_kept : (as' : List Alternative) → each alternative_fits as' ≡ true → each alternative_fits (renamed_alternatives as') ≡ true
unfolding renamed_alternatives
alternatives_kept [] e = refl
alternatives_kept (a ∷ rest) e =
    both_true (alternative_fits a) (each alternative_fits rest) _ (each alternative_fits (renamed_alternatives rest))
    (both_true (ltb (length a.attributes) 256) (ltb (count a.symbols) 65536 && syms_fit a.symbols 64) (ltb (length a.attributes) 256) (ltb (count (renamed_all a.symbols)) 65536 && syms_fit (renamed_all a.symbols) 64) (λ z. z)
    (both_true (ltb (count a.symbols) 65536) (syms_fit a.symbols 64) (ltb (count (renamed_all a.symbols)) 65536) (syms_fit (renamed_all a.symbols) 64) (λ z. ap (λ (k : ℕ). ltb k 65536) (renamed_count a.symbols) ∙ z) (symbols_kept a.symbols 64)))
    (alternatives_kept rest) e

renamed_long : (as' : List Alternative) → length (renamed_alternatives as') ≡ length as'
unfolding renamed_alternatives
renamed_long [] = refl
renamed_long (a ∷ rest) = ap suc (renamed_long rest)

items_kept : (is : List Item) → each item_fits is ≡ true → each item_fits (renamed_items is) ≡ true
unfolding renamed_items renamed_item
items_kept [] e = refl
items_kept (item d ∷ rest) e =
    both_true (item_fits (item d)) (each item_fits rest) _ (each item_fits (renamed_items rest))
    (both_true (ltb (length d.args) 256) (ltb (length d.alternatives) 65536 && each alternative_fits d.alternatives) (ltb (length d.args) 256)
    (ltb (length (renamed_alternatives d.alternatives)) 65536 && each alternative_fits (renamed_alternatives d.alternatives)) (λ z. z)
    (both_true (ltb (length d.alternatives) 65536) (each alternative_fits d.alternatives) (ltb (length (renamed_alternatives d.alternatives)) 65536) (each alternative_fits (renamed_alternatives d.alternatives))
    (λ z. ap (λ (k : ℕ). ltb k 65536) (renamed_long d.alternatives) ∙ z) (alternatives_kept d.alternatives)))
    (items_kept rest) e
items_kept (Item.terminal s o t ∷ rest) e = items_kept rest e

-- theorem: replaced items are within bounds if the items are
pub replaced_fit : (is : List Item) (σ : MacroExpander) → each item_fits is ≡ true → each item_fits (replace_items is σ).0 ≡ true
replaced_fit is σ e = rw (replace_items_is is σ) (items_kept is e)

-- ---- items that passed question 4 are sound
module _ (w : ℕ) (ts : List Text) where
  alternatives_sound : (as' : List Alternative) → Each (AlternativeWithin true w ts) as' → Each AlternativeSound as'
  alternatives_sound [] h = tt
  alternatives_sound (a ∷ rest) h = (within_all_sound w ts a.symbols 64 h.0.symbols, alternatives_sound rest h.1)

  -- theorem: each item of a tape that passed question 4
  pub items_sound : (is : List Item) → Each (ItemWithin true w ts) is → Each ItemSound is
  items_sound [] h = tt
  items_sound (item d ∷ rest) h = (alternatives_sound d.alternatives h.0.alternatives, items_sound rest h.1)
  items_sound (Item.terminal s o t ∷ rest) h = (tt, items_sound rest h.1)
