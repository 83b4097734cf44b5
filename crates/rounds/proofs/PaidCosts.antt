-- Each item of the pile pays for its own texts. Assumes nothing.
use mathlib.Core.Path.{◌≡◌, ap}
use mathlib.Core.Bool.{Bool, true, false, cond}
use mathlib.Core.List.{List, [], ◌∷◌}
use Prim.Native.Nat.{ℕ, ◌+◌, ◌*◌, ◌≤◌}
use native.Mathlib.Omega.{arith}
use lib.Dec.{eqb}
use lib.ListN.{length, length-append}
use Rattle.parse_tree.specs.Plain.Tree.{Text, Op, star, plus, question, Sym, Syms, count, lookahead, lookbehind, repeat, macro, group, leaf, around, over, user, Nonterminal}
use Rattle.parse_tree.specs.Plain.Display.{shown_op, shown_leaf, shown_before, shown_behind, opening, shown, shown_all, print}
use Rattle.parse_tree.specs.Plain.References.{action_texts}
use Rattle.parse_tree.specs.declared.syntax.Span.{Span}
use Rattle.parse_tree.proofs.DisplayLaws.{shown_all_app, print-then}
use Rattle.passes.specs.Outcome.{Tree, yes, no, simple}
use Rattle.passes.specs.Macros.{Pending, looking, repeating, listing, expand_expr_symbol, expand_repeat_symbol, expand_symbol, has_name, chosen, group_action, made, one_chosen, all_chosen}
use Rattle.passes.specs.Views.{ahead, behind}
use Rattle.passes.proofs.Outcomes.{no≢yes}
use Rattle.laws.specs.Counts.{heads_in, over_alternatives}
use Rattle.rounds.specs.Paid.{weigh, cost24, cost20, pending_key, own_texts}
use Rattle.passes.proofs.ResolveKeeps.{yes_as}

-- ---- how long printed forms are at least
repeat_long : (s : Span) (o : Op) (x : Sym) → 1 ≤ length (print (around s (repeat o) x))
unfolding print shown shown_before shown_behind
repeat_long s o x = omega (arith, length-append (print x) (shown_op o ∷ []), ap length (print-then x (shown_op o ∷ [])))

all_long : (xs : Syms) (sep : Text) (b : ℕ) → 1 ≤ length (shown_all xs sep (b ∷ []))
all_long xs sep b = omega (arith, ap length (shown_all_app xs sep [] (b ∷ [])), length-append (shown_all xs sep []) (b ∷ []))

macro_long : (s : Span) (n : Text) (xs : Syms) → 2 ≤ length (print (over s (macro n) xs))
unfolding print shown opening
macro_long s n xs = omega (arith, length-append n (60 ∷ shown_all xs (44 ∷ 32 ∷ []) (62 ∷ [])), all_long xs (44 ∷ 32 ∷ []) 62)

group_long : (s : Span) (xs : Syms) → 2 ≤ length (print (over s group xs))
unfolding print shown opening
group_long s xs = omega (arith, all_long xs (32 ∷ []) 41)

ahead_long : (s : Span) → 2 ≤ length (print (leaf s lookahead))
unfolding print shown shown_leaf
ahead_long s = omega arith

behind_long : (s : Span) → 2 ≤ length (print (leaf s lookbehind))
unfolding print shown shown_leaf
behind_long s = omega arith

-- ---- an item pays for texts
abbrev Pays : List Text → Nonterminal → Type 0
Pays us d = (weigh cost24 us ≤ 15 + heads_in d.alternatives) × (weigh cost20 us ≤ 15 + heads_in d.alternatives + 9 * over_alternatives count d.alternatives)

-- a text alone
one_pays : (t : Text) (d : Nonterminal) → 2 ≤ length t → Pays (t ∷ []) d
unfolding weigh
one_pays t d h = (omega arith, omega arith)

repeat_pays : (s : Span) (o : Op) (x : Sym) → Pays (own_texts (repeating s o x)) (expand_repeat_symbol s (pending_key (repeating s o x)) o x)
unfolding weigh own_texts heads_in over_alternatives count
repeat_pays s star x = (omega (arith, repeat_long s star x), omega (arith, repeat_long s star x))
repeat_pays s plus x = (omega (arith, repeat_long s plus x), omega (arith, repeat_long s plus x))
repeat_pays s question x = (omega (arith, repeat_long s question x), omega (arith, repeat_long s question x))

group_pays : (s : Span) (xs : Syms) (d : Nonterminal) → expand_expr_symbol s (pending_key (listing s group xs)) xs ≡ yes d → Pays (own_texts (listing s group xs)) d
unfolding weigh own_texts heads_in action_texts
group_pays s xs d e = go (has_name xs) e
  where
    key : Text
    key = pending_key (listing s group xs)

    by : (b : Bool) → Pays (key ∷ action_texts (cond b (user one_chosen) (user all_chosen))) (made s key true (simple s (group_action xs) xs ∷ []))
    by true = (omega (arith, group_long s xs), omega (arith, group_long s xs))
    by false = (omega (arith, group_long s xs), omega (arith, group_long s xs))

    go : (b : Bool) → cond b (no 19 s) (yes (made s key true (simple s (group_action xs) xs ∷ []))) ≡ yes d → Pays (key ∷ action_texts (group_action xs)) d
    go true f = absurd (no≢yes 19 s d f)
    go false f = yes_as (λ c. Pays (key ∷ action_texts (group_action xs)) c) f (by (eqb (cond (eqb (chosen xs) 0) (count xs) (chosen xs)) 1))

-- theorem: the item of a popped symbol
pub expand_pays : (G : Tree) (x : Pending) (d : Nonterminal) → expand_symbol G x ≡ yes d → Pays (own_texts x) d
unfolding expand_symbol own_texts
expand_pays G (looking s ahead) d e = one_pays _ d (ahead_long s)
expand_pays G (looking s behind) d e = one_pays _ d (behind_long s)
expand_pays G (repeating s o x) d e = yes_as (λ c. Pays (own_texts (repeating s o x)) c) e (repeat_pays s o x)
expand_pays G (listing s (macro n) xs) d e = one_pays _ d (macro_long s n xs)
expand_pays G (listing s group xs) d e = group_pays s xs d e
