-- Expanding only hands spans on: what holds of every span of a tree, and of the macros' definitions, holds of every span of the rounds' yes.
-- Assumes nothing.
use mathlib.Core.Path.{◌≡◌, subst}
use mathlib.Core.Bool.{Bool, true, false, cond}
use mathlib.Core.List.{List, [], ◌∷◌, ◌++◌}
use mathlib.Core.Option.{Option, some}
use Prim.Native.Nat.{ℕ, zero, suc}
use Rattle.octets.specs.Plain.Runs.{same_as}
use Rattle.parse_tree.specs.Plain.Tree.{Text, Op, star, plus, question, Leaf, Around, Over, Sym, Syms, ambiguous, bare, quoted, regex, nonterminal, lookahead, lookbehind, error, repeat, choose, name, macro, group, leaf, around, over, nil, cons, Alternative, Nonterminal, Item, item, Stage}
use Rattle.parse_tree.specs.Plain.Texts.{has}
use Rattle.parse_tree.specs.Plain.Display.{print}
use Rattle.parse_tree.specs.Working.Within.{Each}
use Rattle.parse_tree.specs.Plain.References.{stage_of}
use Rattle.parse_tree.specs.declared.syntax.Span.{Span}
use Rattle.parse_tree.proofs.ReadingLaws.{each_append}
use Rattle.passes.specs.Outcome.{Tree, Outcome, yes, no, after, simple}
use Rattle.passes.specs.Views.{Look, ahead, behind}
use Rattle.passes.specs.Macros.{Pending, looking, repeating, listing, symbol_of, span_of, expand_lookaround_symbol, MacroExpander, push, replace_around, replace_symbol, replace_symbols, replace_alternatives, replace_items, at, argument_of, or_name, macro_expand_symbol, macro_expand_symbols, macro_in, expand_macro_symbol, has_name, group_action, made, expand_expr_symbol, expand_repeat_symbol, expand_over, expand_symbol, drain, without_macros}
use Rattle.passes.specs.Stages.{last_stage, or_more, stage, rounds}
use Rattle.passes.specs.Calls.{sizes}
use Rattle.passes.proofs.Outcomes.{no≢yes, after-yes}
use Rattle.passes.proofs.ResolveKeeps.{yes_as}
use Rattle.passes.proofs.MacrosKeep.{Found, macro_found, call_keeps}
use Rattle.meaning.specs.Spans.{SymSpans, SymsSpans, AlternativeSpans, ItemSpans}
use Rattle.meaning.proofs.Calls.Staged.{admitted}

module _ (P : Span → Type 0) where
  -- ---- replacing: what it gives, and the pile
  abbrev pub PileSpans : MacroExpander → Type 0
  PileSpans σ = Each (λ x. SymSpans P (symbol_of x)) σ.pile

  push-spans : (x : Pending) (σ : MacroExpander) → P (span_of x) → SymSpans P (symbol_of x) → PileSpans σ → SymSpans P (push x σ).0 × PileSpans (push x σ).1
  unfolding push
  push-spans x σ h k p = (h, go (has (print (symbol_of x)) σ.keys))
    where
      go : (b : Bool) → PileSpans (cond b σ (record { keys = print (symbol_of x) ∷ σ.keys; pile = x ∷ σ.pile }))
      go true = p
      go false = (k, p)

  replace_leaf_spans : (s : Span) (l : Leaf) (σ : MacroExpander) → P s → PileSpans σ → SymSpans P (replace_symbol (leaf s l) σ).0 × PileSpans (replace_symbol (leaf s l) σ).1
  unfolding replace_symbol
  replace_leaf_spans s (ambiguous n) σ h p = (h, p)
  replace_leaf_spans s (bare n) σ h p = (h, p)
  replace_leaf_spans s (quoted t) σ h p = (h, p)
  replace_leaf_spans s (regex t) σ h p = (h, p)
  replace_leaf_spans s (nonterminal n) σ h p = (h, p)
  replace_leaf_spans s lookahead σ h p = push-spans (looking s ahead) σ h h p
  replace_leaf_spans s lookbehind σ h p = push-spans (looking s behind) σ h h p
  replace_leaf_spans s error σ h p = (h, p)

  replace_around-spans : (s : Span) (a : Around) (q : Sym × MacroExpander) → P s → SymSpans P q.0 → PileSpans q.1
      → SymSpans P (replace_around s a q).0 × PileSpans (replace_around s a q).1
  replace_around-spans s (repeat o) q h k p = push-spans (repeating s o q.0) q.1 h (h, k) p
  replace_around-spans s choose q h k p = ((h, k), p)
  replace_around-spans s (name m n) q h k p = ((h, k), p)

  mutual
    unfolding replace_symbol replace_symbols

    replace_symbol_spans : (x : Sym) (σ : MacroExpander) → SymSpans P x → PileSpans σ → SymSpans P (replace_symbol x σ).0 × PileSpans (replace_symbol x σ).1
    replace_symbol_spans (leaf s l) σ h p = replace_leaf_spans s l σ h p
    replace_symbol_spans (around s a x) σ h p =
        let (k, p1) = replace_symbol_spans x σ h.1 p in
        replace_around-spans s a (replace_symbol x σ) h.0 k p1
    replace_symbol_spans (over s o xs) σ h p =
        let (k, p1) = replace_symbols_spans xs σ h.1 p in
        push-spans (listing s o (replace_symbols xs σ).0) (replace_symbols xs σ).1 h.0 (h.0, k) p1

    replace_symbols_spans : (xs : Syms) (σ : MacroExpander) → SymsSpans P xs → PileSpans σ → SymsSpans P (replace_symbols xs σ).0 × PileSpans (replace_symbols xs σ).1
    replace_symbols_spans nil σ h p = (tt, p)
    replace_symbols_spans (cons x xs) σ h p =
        let (k, p1) = replace_symbol_spans x σ h.0 p in
        let (ks, p2) = replace_symbols_spans xs (replace_symbol x σ).1 h.1 p1 in
        ((k, ks), p2)

  replace_alternatives-spans : (as' : List Alternative) (σ : MacroExpander) → Each (AlternativeSpans P) as' → PileSpans σ
      → Each (AlternativeSpans P) (replace_alternatives as' σ).0 × PileSpans (replace_alternatives as' σ).1
  unfolding replace_alternatives
  replace_alternatives-spans [] σ h p = (tt, p)
  replace_alternatives-spans (a ∷ rest) σ h p =
      let (k, p1) = replace_symbols_spans a.symbols σ h.0.2 p in
      let (ks, p2) = replace_alternatives-spans rest (replace_symbols a.symbols σ).1 h.1 p1 in
      (((h.0.0, h.0.1, k), ks), p2)

  pub replace_items-spans : (is' : List Item) (σ : MacroExpander) → Each (ItemSpans P) is' → PileSpans σ → Each (ItemSpans P) (replace_items is' σ).0 × PileSpans (replace_items is' σ).1
  unfolding replace_items
  replace_items-spans [] σ h p = (tt, p)
  replace_items-spans (item d ∷ rest) σ h p =
      let (k, p1) = replace_alternatives-spans d.alternatives σ h.0.1 p in
      let (ks, p2) = replace_items-spans rest (replace_alternatives d.alternatives σ).1 h.1 p1 in
      (((h.0.0, k), ks), p2)
  replace_items-spans (Item.terminal s o t ∷ rest) σ h p =
      let (ks, p1) = replace_items-spans rest σ h.1 p in
      ((h.0, ks), p1)

  -- ---- a macro's arguments put in
  at-spans : (s : Span) (x : Sym) → P s → SymSpans P x → SymSpans P (at s x)
  at-spans s (leaf t l) h k = h
  at-spans s (around t a x) h k = (h, k.1)
  at-spans s (over t o xs) h k = (h, k.1)

  argument-spans : (s : Span) (n : Text) (ps : List Text) (xs : Syms) → P s → SymsSpans P xs → SymSpans P (or_name s n (argument_of ps xs n))
  argument-spans s n [] xs h k = h
  argument-spans s n (p ∷ ps) nil h k = h
  argument-spans s n (p ∷ ps) (cons x xs) h k = go (same_as n p) (argument-spans s n ps xs h k.1)
    where
      go : (b : Bool) → SymSpans P (or_name s n (argument_of ps xs n)) → SymSpans P (or_name s n (cond b (some x) (argument_of ps xs n)))
      go true r = at-spans s x h k.0
      go false r = r

  module _ (ps : List Text) (args : Syms) (given : SymsSpans P args) where
    expand_leaf_in : (s : Span) (l : Leaf) → P s → SymSpans P (macro_expand_symbol ps args (leaf s l))
    unfolding macro_expand_symbol
    expand_leaf_in s (ambiguous n) h = h
    expand_leaf_in s (bare n) h = h
    expand_leaf_in s (quoted t) h = h
    expand_leaf_in s (regex t) h = h
    expand_leaf_in s (nonterminal n) h = argument-spans s n ps args h given
    expand_leaf_in s lookahead h = h
    expand_leaf_in s lookbehind h = h
    expand_leaf_in s error h = h

    mutual
      unfolding macro_expand_symbol macro_expand_symbols

      expand_symbol-in : (x : Sym) → SymSpans P x → SymSpans P (macro_expand_symbol ps args x)
      expand_symbol-in (leaf s l) h = expand_leaf_in s l h
      expand_symbol-in (around s a x) h = (h.0, expand_symbol-in x h.1)
      expand_symbol-in (over s o xs) h = (h.0, expand_symbols_in xs h.1)

      expand_symbols_in : (xs : Syms) → SymsSpans P xs → SymsSpans P (macro_expand_symbols ps args xs)
      expand_symbols_in nil h = tt
      expand_symbols_in (cons x xs) h = (expand_symbol-in x h.0, expand_symbols_in xs h.1)

  -- ---- the item of a symbol taken off the pile
  -- what an expanded symbol must be
  abbrev ItemOf : Nonterminal → Type 0
  ItemOf d = ItemSpans P (item d)

  macro_spans : (s : Span) (key : Text) (xs : Syms) (o : Option Nonterminal) (d : Nonterminal) → P s → SymsSpans P xs → Found (ItemSpans P) o → expand_macro_symbol s key xs o ≡ yes d → ItemOf d
  macro_spans s key xs o d h k f e = call_keeps (AlternativeSpans P) s xs (λ ps a i. (h, tt, expand_symbols_in ps xs k a.symbols i.2)) (ItemSpans P) (λ m i. i.1) key (λ m bs i. (h, i)) o d f e

  group_spans : (s : Span) (key : Text) (xs : Syms) (d : Nonterminal) → P s → SymsSpans P xs → expand_expr_symbol s key xs ≡ yes d → ItemOf d
  group_spans s key xs d h k e = go (has_name xs) e
    where
      go : (b : Bool) → cond b (no 19 s) (yes (made s key true (simple s (group_action xs) xs ∷ []))) ≡ yes d → ItemOf d
      go true z = absurd (no≢yes 19 s d z)
      go false z = yes_as ItemOf z (h, ((h, tt, k), tt))

  repeat_spans : (s : Span) (key : Text) (o : Op) (x : Sym) → P s → SymSpans P x → ItemOf (expand_repeat_symbol s key o x)
  repeat_spans s key star x h k = (h, ((h, tt, tt), ((h, tt, ((h, (h, k)), tt)), tt)))
  repeat_spans s key plus x h k = (h, ((h, tt, (k, tt)), ((h, tt, ((h, h), ((h, k), tt))), tt)))
  repeat_spans s key question x h k = (h, ((h, tt, (k, tt)), ((h, tt, tt), tt)))

  look_spans : (s : Span) (key : Text) (k : Look) → P s → ItemOf (expand_lookaround_symbol s key k)
  look_spans s key ahead h = (h, ((h, tt, tt), tt))
  look_spans s key behind h = (h, ((h, tt, tt), tt))

  module _ (G : Tree) (defined : Each (ItemSpans P) G) where
    over_item_spans : (s : Span) (key : Text) (o : Over) (xs : Syms) (d : Nonterminal) → P s → SymsSpans P xs → expand_over G s key o xs ≡ yes d → ItemOf d
    over_item_spans s key (macro n) xs d h k e = macro_spans s key xs (macro_in G n) d h k (macro_found (ItemSpans P) G n defined) e
    over_item_spans s key group xs d h k e = group_spans s key xs d h k e

    item_spans : (x : Pending) (d : Nonterminal) → SymSpans P (symbol_of x) → expand_symbol G x ≡ yes d → ItemOf d
    unfolding expand_symbol
    item_spans (looking s ahead) d h e = yes_as ItemOf e (look_spans s (print (leaf s lookahead)) ahead h)
    item_spans (looking s behind) d h e = yes_as ItemOf e (look_spans s (print (leaf s lookbehind)) behind h)
    item_spans (repeating s o x) d h e = yes_as ItemOf e (repeat_spans s (print (around s (repeat o) x)) o x h.0 h.1)
    item_spans (listing s o xs) d h e = over_item_spans s (print (over s o xs)) o xs d h.0 h.1 e

    pub drain-spans : (xs : List Pending) (new : List Item) → Each (λ x. SymSpans P (symbol_of x)) xs → drain G xs ≡ yes new → Each (ItemSpans P) new
    unfolding drain
    drain-spans [] new h e = yes_as (Each (ItemSpans P)) e tt
    drain-spans (x ∷ xs) new h e =
        let (d, ed, e1) = after-yes (expand_symbol G x) _ new e in
        let (ds, es, e2) = after-yes (drain G xs) _ new e1 in
        yes_as (Each (ItemSpans P)) e2 (item_spans x d h.0 ed, drain-spans xs ds h.1 es)

  pub without_macros-spans : (G : Tree) → Each (ItemSpans P) G → Each (ItemSpans P) (without_macros G)
  without_macros-spans [] h = tt
  without_macros-spans (item d ∷ rest) h = go d.args (without_macros-spans rest h.1)
    where
      go : (as' : List Text) → Each (ItemSpans P) (without_macros rest) → Each (ItemSpans P) (elim as' [ [] ↦ item d ∷ without_macros rest | p ∷ ps ↦ without_macros rest ])
      go [] r = (h.0, r)
      go (p ∷ ps) r = r
  without_macros-spans (Item.terminal s o t ∷ rest) h = (h.0, without_macros-spans rest h.1)

  -- ---- rounds
  pub stage_spans : (w cap : ℕ) (ts : List Text) (items : List Item) (g : Stage) → Each (ItemSpans P) items → stage (sizes w cap) ts items ≡ yes g → Each (ItemSpans P) g.items
  unfolding stage_of
  stage_spans w cap ts items g h e = subst (λ (x : Stage). Each (ItemSpans P) x.items) (admitted w cap (stage_of ts items) g e).same h

  pub rounds_spans : (w cap : ℕ) (G : Tree) (limit : ℕ) (ts : List Text) (old fresh : List Item) (keys : List Text) (g : Stage)
      → Each (ItemSpans P) G → Each (ItemSpans P) old → Each (ItemSpans P) fresh → rounds (sizes w cap) G limit ts old fresh keys ≡ yes g → Each (ItemSpans P) g.items
  unfolding rounds
  rounds_spans w cap G zero ts old fresh keys g hG ho hf e =
      let q = replace_items fresh (record { keys = keys; pile = [] }) in
      let (k, p) = replace_items-spans fresh (record { keys = keys; pile = [] }) hf tt in
      go (old ++ q.0) q.1.pile (each_append (ItemSpans P) old q.0 ho k) e
    where
      go : (items : List Item) (pile : List Pending) → Each (ItemSpans P) items → last_stage pile (stage (sizes w cap) ts items) ≡ yes g → Each (ItemSpans P) g.items
      go items [] h z = stage_spans w cap ts items g h z
      go items (x ∷ xs) h z = absurd (no≢yes 18 _ g z)
  rounds_spans w cap G (suc limit) ts old fresh keys g hG ho hf e =
      let q = replace_items fresh (record { keys = keys; pile = [] }) in
      let (k, p) = replace_items-spans fresh (record { keys = keys; pile = [] }) hf tt in
      let h = each_append (ItemSpans P) old q.0 ho k in
      go q q.1.pile h p (λ us new ks hn z. rounds_spans w cap G limit us (old ++ q.0) new ks g hG h hn z) e
    where
      more : (q : List Item × MacroExpander) → Outcome Stage
      more q =
          after (stage (sizes w cap) ts (old ++ q.0)) (λ r. after (drain G q.1.pile) (λ new.
          after (stage (sizes w cap) r.atoms (old ++ q.0 ++ new)) (λ k. rounds (sizes w cap) G limit k.atoms (old ++ q.0) new q.1.keys)))

      go : (q : List Item × MacroExpander) (pile : List Pending) → Each (ItemSpans P) (old ++ q.0) → PileSpans q.1
          → ((us : List Text) (new : List Item) (ks : List Text) → Each (ItemSpans P) new → rounds (sizes w cap) G limit us (old ++ q.0) new ks ≡ yes g → Each (ItemSpans P) g.items)
          → or_more pile (stage (sizes w cap) ts (old ++ q.0)) (more q) ≡ yes g → Each (ItemSpans P) g.items
      go q [] h p ih z = stage_spans w cap ts (old ++ q.0) g h z
      go q (x ∷ xs) h p ih z =
          let (r, er, z1) = after-yes (stage (sizes w cap) ts (old ++ q.0)) _ g z in
          let (new, en, z2) = after-yes (drain G q.1.pile) _ g z1 in
          let (k, ek, z3) = after-yes (stage (sizes w cap) r.atoms (old ++ q.0 ++ new)) _ g z2 in
          ih k.atoms new q.1.keys (drain-spans G hG q.1.pile new p en) z3
