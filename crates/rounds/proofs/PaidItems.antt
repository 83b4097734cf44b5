-- The texts of the items of the pile: their own, those inside the symbols, and those of the definitions. Assumes nothing.
use mathlib.Core.Path.{◌≡◌}
use mathlib.Core.Bool.{Bool, true, false, cond}
use mathlib.Core.List.{List, [], ◌∷◌, ◌++◌}
use mathlib.Core.Option.{Option, none, some}
use Rattle.octets.specs.Plain.Runs.{same_as}
use Rattle.parse_tree.specs.Plain.Tree.{Text, Op, star, plus, question, Leaf, Sym, Syms, ambiguous, bare, quoted, regex, nonterminal, lookahead, lookbehind, error, macro, group, leaf, around, over, nil, cons, Alternative, Nonterminal, Item, item, conditions}
use Rattle.parse_tree.specs.Plain.References.{texts_of_each, leaf_texts, around_texts, over_texts, sym_texts, syms_texts, action_texts, attribute_texts, condition_texts, alternative_texts, item_texts}
use Rattle.parse_tree.specs.Working.Within.{Each}
use Rattle.parse_tree.specs.declared.syntax.Span.{Span}
use Rattle.parse_tree.proofs.ReadingLaws.{each_append}
use Rattle.passes.specs.Outcome.{Tree, yes, no, after, simple}
use Rattle.passes.specs.Macros.{Pending, looking, repeating, listing, at, argument_of, or_name, macro_expand_symbol, macro_expand_symbols, evaluate_cond, expand_alternative, expand_alternatives, macro_in, expand_macro_symbol, expand_expr_symbol, expand_repeat_symbol, expand_lookaround_symbol, expand_symbol, drain, has_name, group_action, made}
use Rattle.passes.specs.Views.{Look, ahead, behind}
use Rattle.passes.proofs.Outcomes.{no≢yes, after-yes}
use Rattle.passes.proofs.ResolveKeeps.{yes_as}
use Rattle.passes.proofs.MacrosKeep.{Found, macro_found}
use Rattle.appending.proofs.SymbolsTrees.{each-parts}
use Rattle.rounds.specs.Paid.{pending_key, inside_texts, own_texts}

-- ---- P holds of the texts inside the symbol, of its own and of those of definitions
module _ (P : Text → Type 0) where
  -- a macro's arguments put in
  at-texts : (s : Span) (x : Sym) → Each P (sym_texts x) → Each P (sym_texts (at s x))
  unfolding sym_texts
  at-texts s (leaf t l) h = h
  at-texts s (around t a x) h = h
  at-texts s (over t o xs) h = h

  argument-texts : (s : Span) (n : Text) (ps : List Text) (xs : Syms) → P n → Each P (syms_texts xs) → Each P (sym_texts (or_name s n (argument_of ps xs n)))
  unfolding sym_texts leaf_texts
  argument-texts s n [] xs h k = (h, tt)
  argument-texts s n (p ∷ ps) nil h k = (h, tt)
  argument-texts s n (p ∷ ps) (cons x xs) h k = let (a, b) = each-parts P (sym_texts x) (syms_texts xs) k in go a (same_as n p) (argument-texts s n ps xs h b)
    where
      go : Each P (sym_texts x) → (b : Bool) → Each P (sym_texts (or_name s n (argument_of ps xs n))) → Each P (sym_texts (or_name s n (cond b (some x) (argument_of ps xs n))))
      go a true i = at-texts s x a
      go a false i = i

  module _ (ps : List Text) (args : Syms) (k : Each P (syms_texts args)) where
    leaf_put : (s : Span) (l : Leaf) → Each P (leaf_texts l) → Each P (sym_texts (macro_expand_symbol ps args (leaf s l)))
    unfolding macro_expand_symbol sym_texts leaf_texts
    leaf_put s (ambiguous n) h = h
    leaf_put s (bare n) h = h
    leaf_put s (quoted t) h = h
    leaf_put s (regex t) h = h
    leaf_put s (nonterminal n) h = argument-texts s n ps args h.0 k
    leaf_put s lookahead h = h
    leaf_put s lookbehind h = h
    leaf_put s error h = h

    mutual
      unfolding macro_expand_symbol sym_texts

      sym_put : (x : Sym) → Each P (sym_texts x) → Each P (sym_texts (macro_expand_symbol ps args x))
      sym_put (leaf s l) h = leaf_put s l h
      sym_put (around s a x) h = let (i, j) = each-parts P (around_texts a) (sym_texts x) h in each_append P (around_texts a) (sym_texts (macro_expand_symbol ps args x)) i (sym_put x j)
      sym_put (over s o xs) h = let (i, j) = each-parts P (over_texts o) (syms_texts xs) h in each_append P (over_texts o) (syms_texts (macro_expand_symbols ps args xs)) i (syms_put xs j)

      syms_put : (xs : Syms) → Each P (syms_texts xs) → Each P (syms_texts (macro_expand_symbols ps args xs))
      syms_put nil h = tt
      syms_put (cons x xs) h =
          let (i, j) = each-parts P (sym_texts x) (syms_texts xs) h in
          each_append P (sym_texts (macro_expand_symbol ps args x)) (syms_texts (macro_expand_symbols ps args xs)) (sym_put x i) (syms_put xs j)

    -- an alternative loses its condition
    alternative_put : (s : Span) (a : Alternative) → Each P (alternative_texts a) → Each P (alternative_texts (expand_alternative s ps args a))
    unfolding alternative_texts texts_of_each
    alternative_put s a h =
        let as' = texts_of_each attribute_texts a.attributes in
        let cs = texts_of_each condition_texts (conditions a.condition) in
        let (i, j) = each-parts P (action_texts a.action) (as' ++ (cs ++ syms_texts a.symbols)) h in
        let (l, m) = each-parts P as' (cs ++ syms_texts a.symbols) j in
        let (_, n) = each-parts P cs (syms_texts a.symbols) m in
        let ys = syms_texts (macro_expand_symbols ps args a.symbols) in
        each_append P (action_texts a.action) (as' ++ ys) i (each_append P as' ys l (syms_put a.symbols n))

    alternatives_put : (s : Span) (as' bs : List Alternative) → Each P (texts_of_each alternative_texts as') → expand_alternatives s ps args as' ≡ yes bs → Each P (texts_of_each alternative_texts bs)
    unfolding expand_alternatives texts_of_each
    alternatives_put s [] bs h e = yes_as (λ (cs : List Alternative). Each P (texts_of_each alternative_texts cs)) e tt
    alternatives_put s (a ∷ rest) bs h e =
        let (b, _, f) = after-yes (evaluate_cond ps args a.condition) (λ b. after (expand_alternatives s ps args rest) (λ cs. yes (cond b (expand_alternative s ps args a ∷ cs) cs))) bs e in
        let (cs, g, i) = after-yes (expand_alternatives s ps args rest) (λ cs. yes (cond b (expand_alternative s ps args a ∷ cs) cs)) bs f in
        let (l, m) = each-parts P (alternative_texts a) (texts_of_each alternative_texts rest) h in
        yes_as (λ (ds : List Alternative). Each P (texts_of_each alternative_texts ds)) i (go l b cs (alternatives_put s rest cs m g))
      where
        go : Each P (alternative_texts a) → (b : Bool) (cs : List Alternative) → Each P (texts_of_each alternative_texts cs) → Each P (texts_of_each alternative_texts (cond b (expand_alternative s ps args a ∷ cs) cs))
        go l true cs r = each_append P (alternative_texts (expand_alternative s ps args a)) (texts_of_each alternative_texts cs) (alternative_put s a l) r
        go l false cs r = r

  -- ---- the macro of a call
  abbrev TextsHold : Item → Type 0
  TextsHold i = Each P (item_texts i)

  call_texts : (s : Span) (key : Text) (xs : Syms) (o : Option Nonterminal) (d : Nonterminal) → P key → Each P (syms_texts xs) → Found TextsHold o → expand_macro_symbol s key xs o ≡ yes d → Each P (item_texts (item d))
  unfolding item_texts
  call_texts s key xs none d p k h e = absurd (no≢yes 11 s d e)
  call_texts s key xs (some m) d p k h e =
      let (bs, f, g) = after-yes (expand_alternatives s m.args xs m.alternatives) _ d e in
      let (_, i) = each-parts P m.args (texts_of_each alternative_texts m.alternatives) h.1 in
      yes_as (λ c. Each P (item_texts (item c))) g (p, alternatives_put m.args xs k s m.alternatives bs i f)

  -- ---- groups, repeats, lookarounds
  group_texts : (s : Span) (key : Text) (xs : Syms) (d : Nonterminal) → P key → Each P (action_texts (group_action xs)) → Each P (syms_texts xs) → expand_expr_symbol s key xs ≡ yes d → Each P (item_texts (item d))
  unfolding item_texts alternative_texts texts_of_each
  group_texts s key xs d p a h e = go (has_name xs) e
    where
      all : Each P (item_texts (item (made s key true (simple s (group_action xs) xs ∷ []))))
      all = (p, each_append P (action_texts (group_action xs) ++ syms_texts xs) [] (each_append P (action_texts (group_action xs)) (syms_texts xs) a h) tt)

      go : (b : Bool) → cond b (no 19 s) (yes (made s key true (simple s (group_action xs) xs ∷ []))) ≡ yes d → Each P (item_texts (item d))
      go true f = absurd (no≢yes 19 s d f)
      go false f = yes_as (λ c. Each P (item_texts (item c))) f all

  end : (xs : List Text) → Each P xs → Each P (xs ++ [])
  end xs h = each_append P xs [] h tt

  repeat_texts : (s : Span) (o : Op) (x : Sym) → Each P (sym_texts x) → Each P (own_texts (repeating s o x)) → Each P (item_texts (item (expand_repeat_symbol s (pending_key (repeating s o x)) o x)))
  unfolding item_texts alternative_texts texts_of_each action_texts sym_texts syms_texts leaf_texts around_texts own_texts
  repeat_texts s star x h (k, (n, (v, _))) = (k, (n, (v, (v, end (sym_texts x ++ []) (end (sym_texts x) h)))))
  repeat_texts s plus x h (k, (o, (u, (v, (e, _))))) =
      (k, (o, each_append P (sym_texts x ++ []) _ (end (sym_texts x) h) (u, (v, (k, (e, end (sym_texts x ++ []) (end (sym_texts x) h)))))))
  repeat_texts s question x h (k, (t, (n, _))) = (k, (t, each_append P (sym_texts x ++ []) _ (end (sym_texts x) h) (n, tt)))

  look_texts : (s : Span) (key : Text) (k : Look) → P key → Each P (item_texts (item (expand_lookaround_symbol s key k)))
  unfolding item_texts alternative_texts texts_of_each action_texts syms_texts
  look_texts s key ahead p = (p, tt)
  look_texts s key behind p = (p, tt)

  -- theorem: the item of a popped symbol
  pub expand_texts : (G : Tree) (x : Pending) (d : Nonterminal) → Each (λ i. Each P (item_texts i)) G → Each P (inside_texts x) → Each P (own_texts x) → expand_symbol G x ≡ yes d → Each P (item_texts (item d))
  unfolding expand_symbol inside_texts own_texts
  expand_texts G (looking s k) d g h o e = yes_as (λ c. Each P (item_texts (item c))) e (look_texts s _ k o.0)
  expand_texts G (repeating s r x) d g h o e = yes_as (λ c. Each P (item_texts (item c))) e (repeat_texts s r x h o)
  expand_texts G (listing s (macro n) xs) d g h o e = call_texts s _ xs (macro_in G n) d o.0 h (macro_found TextsHold G n g) e
  expand_texts G (listing s group xs) d g h o e = group_texts s _ xs d o.0 o.1 h e

  -- theorem: and of all
  pub drain-texts : (G : Tree) (xs : List Pending) (is : List Item) → Each (λ i. Each P (item_texts i)) G → Each (λ x. Each P (inside_texts x)) xs → Each (λ x. Each P (own_texts x)) xs → drain G xs ≡ yes is
      → Each P (texts_of_each item_texts is)
  unfolding drain texts_of_each
  drain-texts G [] is g h o e = yes_as (λ (js : List Item). Each P (texts_of_each item_texts js)) e tt
  drain-texts G (x ∷ xs) is g h o e =
      let (d, p, q) = after-yes (expand_symbol G x) _ is e in
      let (ds, r, t) = after-yes (drain G xs) _ is q in
      yes_as (λ (js : List Item). Each P (texts_of_each item_texts js)) t
      (each_append P (item_texts (item d)) (texts_of_each item_texts ds) (expand_texts G x d g h.0 o.0 p) (drain-texts G xs ds g h.1 o.1 r))
