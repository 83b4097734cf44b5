-- No symbol that macro expansion replaces prints as a text of a built-in item. Assumes nothing.
use mathlib.Core.Path.{◌≡◌, refl, sym, ap, ◌∙◌}
use mathlib.Core.Bool.{Bool, true, false, ◌||◌, true≢false, false≢true}
use mathlib.Mathlib.Data.Bool.Basic.{and_elim_left}
use mathlib.Core.List.{List, [], ◌∷◌, ◌++◌, append-nil, append_assoc}
use Prim.Native.Nat.{ℕ, ◌≤◌}
use native.Mathlib.Omega.{arith}
use borrow.Author.Tests.{eq-eqb}
use lib.Dec.{eqb}
use Rattle.octets.specs.Plain.Runs.{same_as}
use Rattle.octets.proofs.SameLaws.{same_as-eq}
use Rattle.parse_tree.specs.Plain.Tree.{Text, Op, star, plus, question, Leaf, Around, Over, Sym, Syms, ambiguous, bare, quoted, regex, nonterminal, lookahead, lookbehind, error, repeat, choose, name, macro, group, leaf, around, over, nil, cons}
use Rattle.parse_tree.specs.Plain.Texts.{has, every, starts_name, in_name, is_identifier}
use Rattle.parse_tree.specs.Plain.Display.{shown_op, shown_leaf, shown_before, shown_behind, opening, shown, shown_all, shown_more, print}
use Rattle.parse_tree.specs.declared.syntax.Span.{Span}
use Rattle.passes.specs.Macros.{vec_none, vec_one, pushed, some_text, none_text, one_chosen, all_chosen, v_name, e_name}
use Rattle.parse_tree.proofs.DisplayLaws.{shown_all_app, print-then}
use Rattle.laws.specs.Keys.{built_ins, SoundText, Expands, SymSound, SymsSound}

-- ---- the first and the last byte of a text, and what stands before the last
abbrev head_of : Text → ℕ
head_of [] = 0
head_of (b ∷ t) = b

abbrev tail_of : Text → Text
tail_of [] = []
tail_of (b ∷ t) = t

abbrev last_of : Text → ℕ
last_of [] = 0
last_of (b ∷ []) = b
last_of (b ∷ c ∷ t) = last_of (c ∷ t)

abbrev init_of : Text → Text
init_of [] = []
init_of (b ∷ []) = []
init_of (b ∷ c ∷ t) = b ∷ init_of (c ∷ t)

last_snoc : (t : Text) (b : ℕ) → last_of (t ++ (b ∷ [])) ≡ b
last_snoc [] b = refl
last_snoc (c ∷ []) b = refl
last_snoc (c ∷ d ∷ t) b = last_snoc (d ∷ t) b

init-snoc : (t : Text) (b : ℕ) → init_of (t ++ (b ∷ [])) ≡ t
init-snoc [] b = refl
init-snoc (c ∷ []) b = refl
init-snoc (c ∷ d ∷ t) b = ap {B = Text} (λ l. c ∷ l) (init-snoc (d ∷ t) b)

-- whether a byte is in a text
abbrev among : ℕ → Text → Bool
among b [] = false
among b (c ∷ t) = eqb b c || among b t

among-here : (b : ℕ) (t r : Text) → among b (t ++ (b ∷ r)) ≡ true
among-here b [] r = rw (eq-eqb b b refl)
among-here b (c ∷ t) r = go (eqb b c) (among-here b t r)
  where
    go : (x : Bool) → among b (t ++ (b ∷ r)) ≡ true → (x || among b (t ++ (b ∷ r))) ≡ true
    go true h = refl
    go false h = h

-- a text that ends otherwise, begins otherwise, or has another byte
unlike_last : (t : Text) (b : ℕ) (u v : Text) → u ≡ t ++ (b ∷ []) → (b ≡ last_of v → ⊥) → u ≡ v → ⊥
unlike_last t b u v e h p = h (sym (last_snoc t b) ∙ ap last_of (sym e ∙ p))

unlike_head : (u v : Text) → (head_of u ≡ head_of v → ⊥) → u ≡ v → ⊥
unlike_head u v h p = h (ap head_of p)

-- an identifier begins with a letter or `_`
starts : (n r : Text) → is_identifier n ≡ true → starts_name (head_of (n ++ r)) ≡ true
unfolding is_identifier
starts [] r e = absurd (false≢true e)
starts (b ∷ bs) r e = and_elim_left (starts_name b) (every in_name bs) e

pub unlike_start : (n r v : Text) → is_identifier n ≡ true → starts_name (head_of v) ≡ false → n ++ r ≡ v → ⊥
unlike_start n r v e f p = true≢false (sym (starts n r e) ∙ ap (λ (t : Text). starts_name (head_of t)) p ∙ f)

-- ---- how printed forms end
repeat_ends : (s : Span) (o : Op) (x : Sym) → print (around s (repeat o) x) ≡ print x ++ (shown_op o ∷ [])
unfolding print shown shown_before shown_behind
repeat_ends s o x = sym (print-then x (shown_op o ∷ []))

all_ends : (xs : Syms) (sep : Text) (b : ℕ) → shown_all xs sep (b ∷ []) ≡ shown_all xs sep [] ++ (b ∷ [])
all_ends xs sep b = sym (shown_all_app xs sep [] (b ∷ []))

macro_ends : (s : Span) (n : Text) (xs : Syms) → print (over s (macro n) xs) ≡ (n ++ (60 ∷ shown_all xs (44 ∷ 32 ∷ []) [])) ++ (62 ∷ [])
unfolding print shown opening
macro_ends s n xs = ap {B = Text} (λ l. n ++ (60 ∷ l)) (all_ends xs (44 ∷ 32 ∷ []) 62) ∙ sym (append_assoc n (60 ∷ shown_all xs (44 ∷ 32 ∷ []) []) (62 ∷ []))

macro_begins : (s : Span) (n : Text) (xs : Syms) → print (over s (macro n) xs) ≡ n ++ (60 ∷ shown_all xs (44 ∷ 32 ∷ []) (62 ∷ []))
unfolding print shown opening
macro_begins s n xs = refl

group_ends : (s : Span) (xs : Syms) → print (over s group xs) ≡ (40 ∷ shown_all xs (32 ∷ []) []) ++ (41 ∷ [])
unfolding print shown opening
group_ends s xs = ap {B = Text} (λ l. 40 ∷ l) (all_ends xs (32 ∷ []) 41)

op_bounds : (o : Op) → (42 ≤ shown_op o) × (shown_op o ≤ 63) × (shown_op o ≡ 62 → ⊥)
op_bounds star = (omega arith, omega arith, λ e. omega (arith, e))
op_bounds plus = (omega arith, omega arith, λ e. omega (arith, e))
op_bounds question = (omega arith, omega arith, λ e. omega (arith, e))

-- ---- no printed form is empty
leaf_some : (s : Span) (l : Leaf) → SymSound (leaf s l) → print (leaf s l) ≡ [] → ⊥
unfolding print shown shown_leaf
leaf_some s (ambiguous n) h p = h.some (sym (append-nil n) ∙ p)
leaf_some s (bare n) h p = h.some (sym (append-nil n) ∙ p)
leaf_some s (quoted t) h p = unlike_head _ [] (λ e. omega (arith, e)) p
leaf_some s (regex t) h p = unlike_head _ [] (λ e. omega (arith, e)) p
leaf_some s (nonterminal n) h p = h.some (sym (append-nil n) ∙ p)
leaf_some s lookahead h p = unlike_head _ [] (λ e. omega (arith, e)) p
leaf_some s lookbehind h p = unlike_head _ [] (λ e. omega (arith, e)) p
leaf_some s error h p = unlike_head _ [] (λ e. omega (arith, e)) p

around_some : (s : Span) (a : Around) (x : Sym) → SymSound (around s a x) → print (around s a x) ≡ [] → ⊥
unfolding print shown shown_before starts_name
around_some s (repeat o) x h p = unlike_last (print x) (shown_op o) (print (around s (repeat o) x)) [] (repeat_ends s o x) (λ e. omega (arith, e, (op_bounds o).0)) p
around_some s choose x h p = unlike_head _ [] (λ e. omega (arith, e)) p
around_some s (name true n) x h p = unlike_head _ [] (λ e. omega (arith, e)) p
around_some s (name false n) x h p = unlike_start n _ [] h.0 refl p

over_some : (s : Span) (o : Over) (xs : Syms) → print (over s o xs) ≡ [] → ⊥
over_some s (macro n) xs p = unlike_last (n ++ (60 ∷ shown_all xs (44 ∷ 32 ∷ []) [])) 62 _ [] (macro_ends s n xs) (λ e. omega (arith, e)) p
over_some s group xs p = unlike_last (40 ∷ shown_all xs (32 ∷ []) []) 41 _ [] (group_ends s xs) (λ e. omega (arith, e)) p

pub print-some : (x : Sym) → SymSound x → print x ≡ [] → ⊥
print-some (leaf s l) h p = leaf_some s l h p
print-some (around s a x) h p = around_some s a x h p
print-some (over s o xs) h p = over_some s o xs p

-- ---- nor is it `<>`
leaf_other : (s : Span) (l : Leaf) → SymSound (leaf s l) → print (leaf s l) ≡ one_chosen → ⊥
unfolding print shown shown_leaf
leaf_other s (ambiguous n) h p = h.other (sym (append-nil n) ∙ p)
leaf_other s (bare n) h p = h.other (sym (append-nil n) ∙ p)
leaf_other s (quoted t) h p = unlike_head _ one_chosen (λ e. omega (arith, e)) p
leaf_other s (regex t) h p = unlike_head _ one_chosen (λ e. omega (arith, e)) p
leaf_other s (nonterminal n) h p = h.other (sym (append-nil n) ∙ p)
leaf_other s lookahead h p = unlike_head _ one_chosen (λ e. omega (arith, e)) p
leaf_other s lookbehind h p = unlike_head _ one_chosen (λ e. omega (arith, e)) p
leaf_other s error h p = unlike_head _ one_chosen (λ e. omega (arith, e)) p

-- what stands in a choice is its printed form without the first and the last byte
choice_inside : (s : Span) (x : Sym) → print (around s choose x) ≡ one_chosen → print x ≡ []
unfolding print shown shown_before shown_behind
choice_inside s x p =
    let q : shown x (62 ∷ []) ≡ 62 ∷ [] = ap tail_of p in
    sym (init-snoc (print x) 62) ∙ ap init_of (print-then x (62 ∷ []) ∙ q)

around_other : (s : Span) (a : Around) (x : Sym) → SymSound (around s a x) → print (around s a x) ≡ one_chosen → ⊥
unfolding print shown shown_before starts_name
around_other s (repeat o) x h p = unlike_last (print x) (shown_op o) (print (around s (repeat o) x)) one_chosen (repeat_ends s o x) (λ e. (op_bounds o).2 e) p
around_other s choose x h p = print-some x h.1 (choice_inside s x p)
around_other s (name true n) x h p = unlike_head _ one_chosen (λ e. omega (arith, e)) p
around_other s (name false n) x h p = unlike_start n _ one_chosen h.0 refl p

over_other : (s : Span) (o : Over) (xs : Syms) → SymSound (over s o xs) → print (over s o xs) ≡ one_chosen → ⊥
unfolding starts_name
over_other s (macro n) xs h p = unlike_start n _ one_chosen h.0 refl (sym (macro_begins s n xs) ∙ p)
over_other s group xs h p = unlike_last (40 ∷ shown_all xs (32 ∷ []) []) 41 _ one_chosen (group_ends s xs) (λ e. omega (arith, e)) p

pub print-other : (x : Sym) → SymSound x → print x ≡ one_chosen → ⊥
print-other (leaf s l) h p = leaf_other s l h p
print-other (around s a x) h p = around_other s a x h p
print-other (over s o xs) h p = over_other s o xs h p

-- ---- a group is not `(<>)`
group_inside : (s : Span) (xs : Syms) → print (over s group xs) ≡ all_chosen → shown_all xs (32 ∷ []) (41 ∷ []) ≡ 60 ∷ 62 ∷ 41 ∷ []
unfolding print shown opening
group_inside s xs p = ap tail_of p

inside-other : (xs : Syms) → SymsSound xs → shown_all xs (32 ∷ []) (41 ∷ []) ≡ 60 ∷ 62 ∷ 41 ∷ [] → ⊥
unfolding shown_all
inside-other nil h p = unlike_head _ (60 ∷ 62 ∷ 41 ∷ []) (λ e. omega (arith, e)) p
inside-other (cons x nil) h p = print-other x h.0 (sym (init-snoc (print x) 41) ∙ ap init_of (print-then x (41 ∷ []) ∙ p))
inside-other (cons x (cons y ys)) h p =
    let q : print x ++ (32 ∷ shown y (shown_more ys (32 ∷ []) (41 ∷ []))) ≡ 60 ∷ 62 ∷ 41 ∷ [] = print-then x _ ∙ p in
    true≢false (sym (among-here 32 (print x) _) ∙ ap (among 32) q)

pub group_other : (s : Span) (xs : Syms) → SymsSound xs → print (over s group xs) ≡ all_chosen → ⊥
group_other s xs h p = inside-other xs h (group_inside s xs p)

-- ---- the nine texts
absent : (x t : Text) (ts : List Text) → (t ≡ x → ⊥) → has x ts ≡ false → has x (t ∷ ts) ≡ false
unfolding has
absent x t ts h k = go (same_as t x) refl
  where
    go : (b : Bool) → same_as t x ≡ b → elim b [ true ↦ true | false ↦ has x ts ] ≡ false
    go true e = absurd (h (same_as-eq t x e))
    go false e = k

none : (x : Text) → has x [] ≡ false
unfolding has
none x = refl

none_of : (x : Text) → (x ≡ vec_none → ⊥) → (x ≡ v_name → ⊥) → (x ≡ vec_one → ⊥) → (x ≡ pushed → ⊥) → (x ≡ e_name → ⊥) → (x ≡ some_text → ⊥) → (x ≡ none_text → ⊥) → (x ≡ one_chosen → ⊥) → (x ≡ all_chosen → ⊥) → has x built_ins ≡ false
unfolding built_ins
none_of x a b c d e f g h i =
    absent x _ _ (λ p. a (sym p)) (absent x _ _ (λ p. b (sym p)) (absent x _ _ (λ p. c (sym p)) (absent x _ _ (λ p. d (sym p)) (absent x _ _ (λ p. e (sym p))
    (absent x _ _ (λ p. f (sym p)) (absent x _ _ (λ p. g (sym p)) (absent x _ _ (λ p. h (sym p)) (absent x _ [] (λ p. i (sym p)) (none x)))))))))

-- bytes by which a text is none of the nine
ends_other : (t u : Text) (b : ℕ) → u ≡ t ++ (b ∷ []) → 42 ≤ b → b ≤ 63 → (b ≡ 62 → ⊥) → has u built_ins ≡ false
ends_other t u b e k l m =
    none_of u (f vec_none (λ p. omega (arith, p))) (f v_name (λ p. omega (arith, p))) (f vec_one (λ p. omega (arith, p))) (f pushed (λ p. omega (arith, p))) (f e_name (λ p. omega (arith, p)))
    (f some_text (λ p. omega (arith, p))) (f none_text (λ p. omega (arith, p))) (f one_chosen (λ p. m p)) (f all_chosen (λ p. omega (arith, p)))
  where
    f : (v : Text) → (b ≡ last_of v → ⊥) → u ≡ v → ⊥
    f v h p = unlike_last t b u v e h p

-- a symbol that is replaced prints as none of them
leaf_built : (s : Span) (l : Leaf) → Expands (leaf s l) → has (print (leaf s l)) built_ins ≡ false
unfolding print shown shown_leaf has built_ins same_as
leaf_built s (ambiguous n) h = absurd h
leaf_built s (bare n) h = absurd h
leaf_built s (quoted t) h = absurd h
leaf_built s (regex t) h = absurd h
leaf_built s (nonterminal n) h = absurd h
leaf_built s lookahead h = refl
leaf_built s lookbehind h = refl
leaf_built s error h = absurd h

around_built : (s : Span) (a : Around) (x : Sym) → Expands (around s a x) → has (print (around s a x)) built_ins ≡ false
around_built s (repeat o) x h = ends_other (print x) _ (shown_op o) (repeat_ends s o x) (op_bounds o).0 (op_bounds o).1 (op_bounds o).2
around_built s choose x h = absurd h
around_built s (name m n) x h = absurd h

over_built : (s : Span) (o : Over) (xs : Syms) → SymSound (over s o xs) → has (print (over s o xs)) built_ins ≡ false
over_built s (macro n) xs h =
    none_of (print (over s (macro n) xs)) (f vec_none (λ p. omega (arith, p))) (f v_name (λ p. omega (arith, p))) (f vec_one (λ p. omega (arith, p))) (f pushed (λ p. omega (arith, p)))
    (f e_name (λ p. omega (arith, p))) (f some_text (λ p. omega (arith, p))) (f none_text (λ p. omega (arith, p))) (print-other (over s (macro n) xs) h) (f all_chosen (λ p. omega (arith, p)))
  where
    f : (v : Text) → (62 ≡ last_of v → ⊥) → print (over s (macro n) xs) ≡ v → ⊥
    f v k p = unlike_last (n ++ (60 ∷ shown_all xs (44 ∷ 32 ∷ []) [])) 62 (print (over s (macro n) xs)) v (macro_ends s n xs) k p
over_built s group xs h =
    none_of (print (over s group xs)) (f vec_none (λ p. omega (arith, p))) (f v_name (λ p. omega (arith, p))) (f vec_one (λ p. omega (arith, p))) (f pushed (λ p. omega (arith, p)))
    (f e_name (λ p. omega (arith, p))) (f some_text (λ p. omega (arith, p))) (f none_text (λ p. omega (arith, p))) (print-other (over s group xs) h) (group_other s xs h.1)
  where
    f : (v : Text) → (40 ≡ head_of v → ⊥) → print (over s group xs) ≡ v → ⊥
    f v k p = k (ap head_of (sym (group_ends s xs) ∙ p))

pub print-built : (x : Sym) → Expands x → SymSound x → has (print x) built_ins ≡ false
print-built (leaf s l) e h = leaf_built s l e
print-built (around s a x) e h = around_built s a x e
print-built (over s o xs) e h = over_built s o xs h

-- ---- what is sound: identifiers, and printed forms
pub ident_sound : (n : Text) → is_identifier n ≡ true → SoundText n
unfolding starts_name
ident_sound n h = record { some = λ p. unlike_start n [] [] h refl (append-nil n ∙ p); other = λ p. unlike_start n [] one_chosen h refl (append-nil n ∙ p) }

pub print-sound : (x : Sym) → SymSound x → SoundText (print x)
print-sound x h = record { some = print-some x h; other = print-other x h }
