-- Arguments put in as symbols are arguments put in as phrases, and a call's conditions decide as they should. Assumes nothing.
use mathlib.Core.Path.{◌≡◌, refl, sym, ap, ◌∙◌, subst}
use mathlib.Core.Logic.{◌⊎◌, inl, inr}
use mathlib.Core.Bool.{Bool, true, false, cond, not, true≢false, false≢true}
use mathlib.Core.List.Memᴰ
use mathlib.Core.List.{List, [], ◌∷◌, Memᴰ, append-nil}
use mathlib.Core.Option.{Option, none, some}
use Rattle.octets.specs.Plain.Runs.{same_as}
use Rattle.octets.proofs.SameLaws.{same_as-eq, eq_same_as}
use Rattle.parse_tree.specs.Plain.Tree.{Text, Leaf, Around, Over, Sym, Syms, ambiguous, bare, quoted, regex, nonterminal, lookahead, lookbehind, error, repeat, choose, name, macro, group, leaf, around, over, nil, cons, Condition, Alternative}
use Rattle.parse_tree.specs.Plain.Texts.{has}
use Rattle.parse_tree.specs.Plain.Display.{shown_leaf, shown, print}
use Rattle.parse_tree.specs.declared.syntax.Span.{Span}
use Rattle.passes.specs.Outcome.{Tree, yes, Outcome, no}
use Rattle.meaning.specs.Phrases.{Phrase, Phrases, token, bare_token, reference}
use Rattle.meaning.specs.Meaning.{is_terminal, named, mean_leaf, mean_around, mean_over, mean, means, argument, put, puts, of_quoted, holds}
use Rattle.passes.specs.Views.{as_quoted}
use Rattle.passes.specs.Macros.{quoted_in, expand_alternative, at, argument_of, or_name, macro_expand_symbol, macro_expand_symbols, evaluate_cond, expand_alternatives}
use Rattle.meaning.specs.Premises.{HasItem}
use Rattle.meaning.proofs.Basics.{test}
use Rattle.passes.proofs.Outcomes.{no≢yes, yes_inj, after-yes}
use Rattle.parse_tree.proofs.AmongLaws.{has_here, has-later, has-cases}
use Rattle.meaning.proofs.Predicates.{Ident, Arity, OkayLeaf, OkayOver, Okay, Okays, named-parameter, named-reference}
use Rattle.meaning.proofs.Macros.Sources.{Name, SrcLeaf, Src, Srcs, s_leaf, s_around, s_over, s_nil, s_cons}
use Rattle.meaning.proofs.Macros.Certificate.{anywhere}

-- a name that is not among others is not the first, nor a later one
not_first : (n p : Text) (ps : List Text) → has n (p ∷ ps) ≡ false → same_as n p ≡ false
not_first n p ps e = go (test (same_as n p))
  where
    go : (same_as n p ≡ true) ⊎ (same_as n p ≡ false) → same_as n p ≡ false
    go (inl q) = absurd (true≢false (sym (subst (λ (z : Text). has n (z ∷ ps) ≡ true) (same_as-eq n p q) (has_here n ps)) ∙ e))
    go (inr q) = q

not_later : (n p : Text) (ps : List Text) → has n (p ∷ ps) ≡ false → has n ps ≡ false
not_later n p ps e = go (test (has n ps))
  where
    go : (has n ps ≡ true) ⊎ (has n ps ≡ false) → has n ps ≡ false
    go (inl q) = absurd (true≢false (sym (has-later n p ps q) ∙ e))
    go (inr q) = q

not_given : (n : Text) (ps : List Text) (xs : Syms) → has n ps ≡ false → argument_of ps xs n ≡ none
not_given n [] xs e = refl
not_given n (p ∷ ps) nil e = refl
not_given n (p ∷ ps) (cons x xs) e = rw (not_first n p ps e) (not_given n ps xs (not_later n p ps e))

module _ (G : Tree) (Known : Text → Type 0) (known : (n : Text) → HasItem G n → Known n) where
  abbrev S : Sym → Phrase → Type 0
  S = Src G Known

  abbrev Ss : Syms → Phrases → Type 0
  Ss = Srcs G Known

  -- a plain nonterminal says itself
  pub plain-name : (n : Text) → Ident n → is_terminal G n ≡ false → Name G n (reference n none)
  unfolding mean named has print shown shown_leaf
  plain-name n i t = record {
    from = leaf anywhere (nonterminal n);
    pure = (i, t);
    prints = sym (append-nil n);
    says = ap (λ (b : Bool). cond b (token (bare_token n)) (reference n none)) t;
    no_token = refl;
  }

  plain-src : (s : Span) (n : Text) → Ident n → is_terminal G n ≡ false → HasItem G n → S (leaf s (nonterminal n)) (reference n none)
  plain-src s n i t h = s_leaf {l = nonterminal n} (plain-name n i t, known n h)

  -- ---- without parameters, a symbol says what it means
  okay_leaf : (s : Span) (l : Leaf) → OkayLeaf G [] l → S (leaf s l) (mean_leaf G [] l)
  unfolding has
  okay_leaf s (ambiguous n) o = absurd o
  okay_leaf s (bare n) o = s_leaf {l = bare n} (o, refl)
  okay_leaf s (quoted t) o = s_leaf {l = quoted t} (o, refl)
  okay_leaf s (regex t) o = s_leaf {l = regex t} (o, refl)
  okay_leaf s (nonterminal n) (inl e) = absurd (false≢true e)
  okay_leaf s (nonterminal n) (inr (e, i, t, h)) = rw (named-reference G [] n e t) (plain-src s n i t h)
  okay_leaf s lookahead o = s_leaf {l = lookahead} (o, refl)
  okay_leaf s lookbehind o = s_leaf {l = lookbehind} (o, refl)
  okay_leaf s error o = s_leaf {l = error} (o, refl)

  mutual
    unfolding mean

    okay_src : (x : Sym) → Okay G [] x → S x (mean G [] x)
    okay_src (leaf s l) o = okay_leaf s l o
    okay_src (around s a x) o = s_around o.0 (okay_src x o.1) refl
    okay_src (over s o xs) k = s_over k.0 (okays_src xs k.1) refl

    pub okays_src : (xs : Syms) → Okays G [] xs → Ss xs (means G [] xs)
    okays_src nil o = s_nil
    okays_src (cons x xs) o = s_cons (okay_src x o.0) (okays_src xs o.1)

  -- ---- the argument of a parameter
  at-src : (s : Span) {x : Sym} {m : Phrase} → S x m → S (at s x) m
  at-src s (s_leaf {l = l} h) = s_leaf {l = l} h
  at-src s (s_around i h e) = s_around i h e
  at-src s (s_over k hs e) = s_over k hs e

  given_src : (s : Span) (n : Text) (ps : List Text) {xs : Syms} {ms : Phrases} → Ss xs ms → Arity ps xs → has n ps ≡ true → S (or_name s n (argument_of ps xs n)) (argument ps ms n)
  unfolding has
  given_src s n [] hs ar e = absurd (false≢true e)
  given_src s n (p ∷ ps) s_nil ar e = absurd ar
  given_src s n (p ∷ ps) (s_cons {x = x} {xs = xs} {m = m} {ms = ms} h hs) ar e = go (same_as n p) refl (has-cases n p ps e) (given_src s n ps hs ar)
    where
      go : (b : Bool) → same_as n p ≡ b → (p ≡ n) ⊎ (has n ps ≡ true) → (has n ps ≡ true → S (or_name s n (argument_of ps xs n)) (argument ps ms n)) →
          S (or_name s n (cond b (some x) (argument_of ps xs n))) (cond b m (argument ps ms n))
      go true q c k = at-src s h
      go false q (inl c) k = absurd (true≢false (sym (eq_same_as n p (sym c)) ∙ q))
      go false q (inr c) k = k c

  -- ---- arguments put in
  module _ (ps : List Text) (xs : Syms) (ms : Phrases) (hs : Ss xs ms) (ar : Arity ps xs) where
    put_arity : (qs : List Text) (ys : Syms) → Arity qs ys → Arity qs (macro_expand_symbols ps xs ys)
    unfolding macro_expand_symbol
    put_arity [] nil h = h
    put_arity [] (cons y ys) h = h
    put_arity (q ∷ qs) nil h = h
    put_arity (q ∷ qs) (cons y ys) h = put_arity qs ys h

    put_okay : (o : Over) (ys : Syms) → OkayOver G ps o ys → OkayOver G [] o (macro_expand_symbols ps xs ys)
    put_okay (macro n) ys (d, i, e, ne, ar', id) = (d, i, e, ne, put_arity d.args ys ar', id)
    put_okay group ys k = tt

    put_leaf : (s : Span) (l : Leaf) → OkayLeaf G ps l → S (macro_expand_symbol ps xs (leaf s l)) (put ps ms (mean_leaf G ps l))
    unfolding macro_expand_symbol put
    put_leaf s (ambiguous n) o = absurd o
    put_leaf s (bare n) o = s_leaf {l = bare n} (o, refl)
    put_leaf s (quoted t) o = s_leaf {l = quoted t} (o, refl)
    put_leaf s (regex t) o = s_leaf {l = regex t} (o, refl)
    put_leaf s (nonterminal n) (inl e) = rw (named-parameter G ps n e) (given_src s n ps hs ar e)
    put_leaf s (nonterminal n) (inr (e, i, t, h)) = rw (named-reference G ps n e t, not_given n ps xs e) (plain-src s n i t h)
    put_leaf s lookahead o = s_leaf {l = lookahead} (o, refl)
    put_leaf s lookbehind o = s_leaf {l = lookbehind} (o, refl)
    put_leaf s error o = s_leaf {l = error} (o, refl)

    put_around : (a : Around) (m : Phrase) → put ps ms (mean_around G ps a m) ≡ mean_around G [] a (put ps ms m)
    unfolding put
    put_around (repeat o) m = refl
    put_around choose m = refl
    put_around (name b n) m = refl

    put_over : (o : Over) (ks : Phrases) → put ps ms (mean_over G ps o ks) ≡ mean_over G [] o (puts ps ms ks)
    unfolding put
    put_over (macro n) ks = refl
    put_over group ks = refl

    mutual
      unfolding macro_expand_symbol put mean

      put_src : (y : Sym) → Okay G ps y → S (macro_expand_symbol ps xs y) (put ps ms (mean G ps y))
      put_src (leaf s l) o = put_leaf s l o
      put_src (around s a y) o = s_around o.0 (put_src y o.1) (put_around a (mean G ps y))
      put_src (over s o ys) k = s_over (put_okay o ys k.0) (puts_src ys k.1) (put_over o (means G ps ys))

      pub puts_src : (ys : Syms) → Okays G ps ys → Ss (macro_expand_symbols ps xs ys) (puts ps ms (means G ps ys))
      puts_src nil o = s_nil
      puts_src (cons y ys) o = s_cons (put_src y o.0) (puts_src ys o.1)

-- ---- conditions
module _ (G : Tree) (Known : Text → Type 0) where
  abbrev asked : Condition → Text → Bool
  asked c t = cond c.equal (same_as t c.rhs) (not (same_as t c.rhs))

  abbrev evaluate_text : Condition → Option Text → Outcome Bool
  evaluate_text c t = elim t [ none ↦ no 17 c.span | some x ↦ yes (asked c x) ]

  leaf_decides : (c : Condition) (l : Leaf) (m : Phrase) (b : Bool) → SrcLeaf G Known l m → evaluate_text c (as_quoted l) ≡ yes b → of_quoted m (asked c) ≡ b
  leaf_decides c (ambiguous n) m b h e = absurd h
  leaf_decides c (bare n) m b h e = absurd (no≢yes _ _ _ e)
  leaf_decides c (quoted t) m b (p, q) e = ap (λ (z : Phrase). of_quoted z (asked c)) q ∙ yes_inj _ _ e
  leaf_decides c (regex t) m b h e = absurd (no≢yes _ _ _ e)
  leaf_decides c (nonterminal n) m b h e = absurd (no≢yes _ _ _ e)
  leaf_decides c lookahead m b h e = absurd (no≢yes _ _ _ e)
  leaf_decides c lookbehind m b h e = absurd (no≢yes _ _ _ e)
  leaf_decides c error m b h e = absurd (no≢yes _ _ _ e)

  symbol_decides : (c : Condition) {x : Sym} {m : Phrase} (b : Bool) → Src G Known x m → evaluate_text c (quoted_in (some x)) ≡ yes b → of_quoted m (asked c) ≡ b
  symbol_decides c b (s_leaf {l = l} {m = m} h) e = leaf_decides c l m b h e
  symbol_decides c b (s_around i h q) e = absurd (no≢yes _ _ _ e)
  symbol_decides c b (s_over k hs q) e = absurd (no≢yes _ _ _ e)

  argument-decides : (c : Condition) (b : Bool) (n : Text) (ps : List Text) {xs : Syms} {ms : Phrases} → Srcs G Known xs ms → evaluate_text c (quoted_in (argument_of ps xs n)) ≡ yes b → of_quoted (argument ps ms n) (asked c) ≡ b
  argument-decides c b n [] hs e = absurd (no≢yes _ _ _ e)
  argument-decides c b n (p ∷ ps) s_nil e = absurd (no≢yes _ _ _ e)
  argument-decides c b n (p ∷ ps) (s_cons {x = x} {xs = xs} {m = m} {ms = ms} h hs) e = go (same_as n p) e (argument-decides c b n ps hs)
    where
      go : (z : Bool) → evaluate_text c (quoted_in (cond z (some x) (argument_of ps xs n))) ≡ yes b →
          (evaluate_text c (quoted_in (argument_of ps xs n)) ≡ yes b → of_quoted (argument ps ms n) (asked c) ≡ b) → of_quoted (cond z m (argument ps ms n)) (asked c) ≡ b
      go true q k = symbol_decides c b h q
      go false q k = k q

  pub condition_decides : (c : Option Condition) (b : Bool) (ps : List Text) {xs : Syms} {ms : Phrases} → Srcs G Known xs ms → evaluate_cond ps xs c ≡ yes b → holds ps ms c ≡ b
  condition_decides none b ps hs e = yes_inj _ _ e
  condition_decides (some c) b ps hs e = argument-decides c b c.lhs ps hs e

-- ---- the alternatives of a call: those whose condition holds, with the arguments put in
module _ (s : Span) (ps : List Text) (xs : Syms) where
  abbrev Chosen : Alternative → List Alternative → Type 0
  Chosen b as' = (a : Alternative) × Memᴰ a as' × (evaluate_cond ps xs a.condition ≡ yes true) × (b ≡ expand_alternative s ps xs a)

  pub alternatives_out : (as' r : List Alternative) → expand_alternatives s ps xs as' ≡ yes r → (b : Alternative) → Memᴰ b r → Chosen b as'
  unfolding expand_alternatives
  alternatives_out [] r e b i = absurd (Memᴰ.not-nil (subst (λ (l : List Alternative). Memᴰ b l) (sym (yes_inj [] r e)) i))
  alternatives_out (a ∷ rest) r e b i =
      let (t, et, e1) = after-yes (evaluate_cond ps xs a.condition) _ r e in
      let (r', er, e2) = after-yes (expand_alternatives s ps xs rest) _ r e1 in
      go t et r' (subst (λ (l : List Alternative). Memᴰ b l) (sym (yes_inj _ _ e2)) i) (alternatives_out rest r' er b)
    where
      low : Chosen b rest → Chosen b (a ∷ rest)
      low (c, j, k, q) = (c, Memᴰ.tail j, k, q)

      here : (r' : List Alternative) → evaluate_cond ps xs a.condition ≡ yes true → Memᴰ b (expand_alternative s ps xs a ∷ r') → (Memᴰ b r' → Chosen b rest) → Chosen b (a ∷ rest)
      here r' k (Memᴰ.head q) f = (a, Memᴰ.head refl, k, q)
      here r' k (Memᴰ.tail j) f = low (f j)

      go : (t : Bool) → evaluate_cond ps xs a.condition ≡ yes t → (r' : List Alternative) → Memᴰ b (cond t (expand_alternative s ps xs a ∷ r') r') → (Memᴰ b r' → Chosen b rest) → Chosen b (a ∷ rest)
      go true k r' j f = here r' k j f
      go false k r' j f = low (f j)

  abbrev Decided : Alternative → List Alternative → Type 0
  Decided a r = (t : Bool) × (evaluate_cond ps xs a.condition ≡ yes t) × (t ≡ true → Memᴰ (expand_alternative s ps xs a) r)

  pub alternatives_in_lem : (as' r : List Alternative) → expand_alternatives s ps xs as' ≡ yes r → (a : Alternative) → Memᴰ a as' → Decided a r
  unfolding expand_alternatives
  alternatives_in_lem [] r e a i = absurd (Memᴰ.not-nil i)
  alternatives_in_lem (x ∷ rest) r e a i =
      let (t, et, e1) = after-yes (evaluate_cond ps xs x.condition) _ r e in
      let (r', er, e2) = after-yes (expand_alternatives s ps xs rest) _ r e1 in
      subst (Decided a) (yes_inj _ _ e2) (go t et r' i (alternatives_in_lem rest r' er a))
    where
      up : (t : Bool) (r' : List Alternative) → Memᴰ (expand_alternative s ps xs a) r' → Memᴰ (expand_alternative s ps xs a) (cond t (expand_alternative s ps xs x ∷ r') r')
      up true r' j = Memᴰ.tail j
      up false r' j = j

      first : (t : Bool) (r' : List Alternative) → a ≡ x → t ≡ true → Memᴰ (expand_alternative s ps xs a) (cond t (expand_alternative s ps xs x ∷ r') r')
      first true r' p h = Memᴰ.head (ap (expand_alternative s ps xs) p)
      first false r' p h = absurd (false≢true h)

      go : (t : Bool) → evaluate_cond ps xs x.condition ≡ yes t → (r' : List Alternative) → Memᴰ a (x ∷ rest) → (Memᴰ a rest → Decided a r') → Decided a (cond t (expand_alternative s ps xs x ∷ r') r')
      go t et r' (Memᴰ.head p) k = (t, subst (λ (z : Alternative). evaluate_cond ps xs z.condition ≡ yes t) (sym p) et, first t r' p)
      go t et r' (Memᴰ.tail j) k = let (u, eu, f) = k j in (u, eu, λ h. up t r' (f h))
