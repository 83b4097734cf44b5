-- Macro calls stay as resolving left them: in what is pushed, and in the items of what is popped. Assumes nothing.
use mathlib.Core.Path.{◌≡◌, refl, sym, ap, ◌∙◌}
use mathlib.Core.Bool.{Bool, true, false, cond}
use mathlib.Core.List.{List, [], ◌∷◌}
use mathlib.Core.Option.{some}
use Prim.Native.Nat.{suc}
use Rattle.octets.specs.Plain.Runs.{same_as}
use Rattle.parse_tree.specs.Plain.Tree.{Text, Op, star, plus, question, Leaf, Over, Sym, Syms, ambiguous, bare, quoted, regex, nonterminal, lookahead, lookbehind, error, repeat, choose, name, macro, group, leaf, around, over, nil, cons, count, Nonterminal, Item, item}
use Rattle.parse_tree.specs.Plain.Texts.{has}
use Rattle.parse_tree.specs.Plain.Display.{print}
use Rattle.parse_tree.specs.Working.Within.{Each}
use Rattle.parse_tree.specs.declared.syntax.Span.{Span}
use Rattle.passes.specs.Outcome.{Tree, yes, no, simple}
use Rattle.passes.specs.Views.{Look, ahead, behind}
use Rattle.passes.specs.Macros.{Pending, looking, repeating, listing, MacroExpander, at, argument_of, or_name, macro_expand_symbol, macro_expand_symbols, macro_in, made, has_name, group_action, expand_expr_symbol, expand_repeat_symbol, expand_lookaround_symbol, expand_symbol, drain}
use Rattle.passes.proofs.Outcomes.{after-yes, no≢yes}
use Rattle.passes.proofs.ResolveKeeps.{yes_as}
use Rattle.passes.proofs.MacrosKeep.{macro_found, call_keeps}
use Rattle.replacing.specs.Trees.{renamed, renamed_all, inner, enter, enter_all}
use Rattle.macro_expand.specs.Drain.{OverCalls}
use Rattle.rounds.specs.Calls.{SymCalls, SymsCall, AlternativeCalls, ItemCalls, PendingCalls}

module _ (G : Tree) where
  -- ---- what is pushed: symbols written again hold no call
  leaf_renamed : (s : Span) (l : Leaf) → SymCalls G (renamed (leaf s l))
  unfolding renamed
  leaf_renamed s (ambiguous n) = tt
  leaf_renamed s (bare n) = tt
  leaf_renamed s (quoted t) = tt
  leaf_renamed s (regex t) = tt
  leaf_renamed s (nonterminal n) = tt
  leaf_renamed s lookahead = tt
  leaf_renamed s lookbehind = tt
  leaf_renamed s error = tt

  pub renamed_calls : (x : Sym) → SymCalls G (renamed x)
  unfolding renamed
  renamed_calls (leaf s l) = leaf_renamed s l
  renamed_calls (around s (repeat o) x) = tt
  renamed_calls (around s choose x) = renamed_calls x
  renamed_calls (around s (name m n) x) = renamed_calls x
  renamed_calls (over s o xs) = tt

  pub renamed_all_calls : (xs : Syms) → SymsCall G (renamed_all xs)
  unfolding renamed_all
  renamed_all_calls nil = tt
  renamed_all_calls (cons x xs) = (renamed_calls x, renamed_all_calls xs)

  inner-calls : (x : Sym) → PendingCalls G (inner x)
  unfolding inner
  inner-calls (leaf s l) = tt
  inner-calls (around s (repeat o) x) = renamed_calls x
  inner-calls (around s choose x) = tt
  inner-calls (around s (name m n) x) = tt
  inner-calls (over s o xs) = renamed_all_calls xs

  -- theorem: the pile
  pub pile_calls : (xs : List Sym) (σ : MacroExpander) → Each (PendingCalls G) σ.pile → Each (PendingCalls G) (enter_all xs σ).pile
  unfolding enter_all enter
  pile_calls [] σ h = h
  pile_calls (x ∷ xs) σ h = pile_calls xs (enter x σ) (one (has (print x) σ.keys) refl)
    where
      one : (b : Bool) → has (print x) σ.keys ≡ b → Each (PendingCalls G) (enter x σ).pile
      one true e = rw e h
      one false e = rw e (inner-calls x, h)

  -- ---- a macro's arguments put in
  at-calls : (s : Span) (x : Sym) → SymCalls G x → SymCalls G (at s x)
  at-calls s (leaf t l) h = h
  at-calls s (around t a x) h = h
  at-calls s (over t o xs) h = h

  argument-calls : (s : Span) (n : Text) (ps : List Text) (xs : Syms) → SymsCall G xs → SymCalls G (or_name s n (argument_of ps xs n))
  argument-calls s n [] xs k = tt
  argument-calls s n (p ∷ ps) nil k = tt
  argument-calls s n (p ∷ ps) (cons x xs) k = go (same_as n p) (argument-calls s n ps xs k.1)
    where
      go : (b : Bool) → SymCalls G (or_name s n (argument_of ps xs n)) → SymCalls G (or_name s n (cond b (some x) (argument_of ps xs n)))
      go true i = at-calls s x k.0
      go false i = i

  module _ (ps : List Text) (args : Syms) (k : SymsCall G args) where
    put_leaf_calls : (s : Span) (l : Leaf) → SymCalls G (macro_expand_symbol ps args (leaf s l))
    unfolding macro_expand_symbol
    put_leaf_calls s (ambiguous n) = tt
    put_leaf_calls s (bare n) = tt
    put_leaf_calls s (quoted t) = tt
    put_leaf_calls s (regex t) = tt
    put_leaf_calls s (nonterminal n) = argument-calls s n ps args k
    put_leaf_calls s lookahead = tt
    put_leaf_calls s lookbehind = tt
    put_leaf_calls s error = tt

    put_count : (xs : Syms) → count (macro_expand_symbols ps args xs) ≡ count xs
    unfolding macro_expand_symbol count
    put_count nil = refl
    put_count (cons x xs) = ap suc (put_count xs)

    over_calls : (o : Over) (xs : Syms) → OverCalls G o xs → OverCalls G o (macro_expand_symbols ps args xs)
    over_calls (macro m) xs (D, e, l) = (D, e, l ∙ sym (put_count xs))
    over_calls group xs h = tt

    mutual
      unfolding macro_expand_symbol

      put_calls : (x : Sym) → SymCalls G x → SymCalls G (macro_expand_symbol ps args x)
      put_calls (leaf s l) h = put_leaf_calls s l
      put_calls (around s a x) h = put_calls x h
      put_calls (over s o xs) h = (over_calls o xs h.0, put_all_calls xs h.1)

      put_all_calls : (xs : Syms) → SymsCall G xs → SymsCall G (macro_expand_symbols ps args xs)
      put_all_calls nil h = tt
      put_all_calls (cons x xs) h = (put_calls x h.0, put_all_calls xs h.1)

  -- ---- the items of popped symbols
  repeat_calls : (s : Span) (key : Text) (o : Op) (x : Sym) → SymCalls G x → Each (AlternativeCalls G) (expand_repeat_symbol s key o x).alternatives
  repeat_calls s key star x h = (tt, ((h, tt), tt))
  repeat_calls s key plus x h = ((h, tt), ((tt, (h, tt)), tt))
  repeat_calls s key question x h = ((h, tt), (tt, tt))

  group_calls : (s : Span) (key : Text) (xs : Syms) (d : Nonterminal) → SymsCall G xs → expand_expr_symbol s key xs ≡ yes d → Each (AlternativeCalls G) d.alternatives
  group_calls s key xs d h e = go (has_name xs) e
    where
      go : (b : Bool) → cond b (no 19 s) (yes (made s key true (simple s (group_action xs) xs ∷ []))) ≡ yes d → Each (AlternativeCalls G) d.alternatives
      go true f = absurd (no≢yes 19 s d f)
      go false f = yes_as (λ c. Each (AlternativeCalls G) c.alternatives) f (h, tt)

  look_calls : (s : Span) (key : Text) (k : Look) → Each (AlternativeCalls G) (expand_lookaround_symbol s key k).alternatives
  look_calls s key ahead = (tt, tt)
  look_calls s key behind = (tt, tt)

  expand_calls : (x : Pending) (d : Nonterminal) → Each (ItemCalls G) G → PendingCalls G x → expand_symbol G x ≡ yes d → ItemCalls G (item d)
  unfolding expand_symbol
  expand_calls (looking s k) d g h e = yes_as (λ c. Each (AlternativeCalls G) c.alternatives) e (look_calls s _ k)
  expand_calls (repeating s o x) d g h e = yes_as (λ c. Each (AlternativeCalls G) c.alternatives) e (repeat_calls s _ o x h)
  expand_calls (listing s (macro n) xs) d g h e = call_keeps (AlternativeCalls G) s xs (λ ps a k. put_all_calls ps xs h a.symbols k) (ItemCalls G) (λ m k. k) _ (λ m bs k. k) (macro_in G n) d (macro_found (ItemCalls G) G n g) e
  expand_calls (listing s group xs) d g h e = group_calls s _ xs d h e

  -- theorem: the items of the pile
  pub drain-calls : (xs : List Pending) (is : List Item) → Each (ItemCalls G) G → Each (PendingCalls G) xs → drain G xs ≡ yes is → Each (ItemCalls G) is
  unfolding drain
  drain-calls [] is g h e = yes_as (Each (ItemCalls G)) e tt
  drain-calls (x ∷ xs) is g h e =
      let (d, p, q) = after-yes (expand_symbol G x) _ is e in
      let (ds, r, t) = after-yes (drain G xs) _ is q in
      yes_as (Each (ItemCalls G)) t (expand_calls x d g h.0 p, drain-calls xs ds g h.1 r)
