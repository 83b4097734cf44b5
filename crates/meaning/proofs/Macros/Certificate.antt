-- What has to hold of a tree X, item by item, so that it derives from each name what the symbol of that name derives in G. Assumes nothing.
use mathlib.Core.Path.{◌≡◌, refl, sym, ap, ◌∙◌, subst}
use mathlib.Core.Logic.{◌⊎◌, inl, inr}
use mathlib.Core.Bool.{Bool, true, false, cond, false≢true}
use mathlib.Core.List.{List, [], ◌∷◌, Memᴰ, append-nil}
use mathlib.Core.Option.{none}
use Rattle.parse_tree.specs.Plain.Tree.{Text, Leaf, Around, Sym, Syms, ambiguous, bare, quoted, regex, nonterminal, lookahead, lookbehind, error, repeat, choose, name, leaf, Alternative, Nonterminal, item}
use Rattle.parse_tree.specs.Plain.Texts.{has}
use Rattle.parse_tree.specs.Plain.Display.{shown_leaf, shown, print}
use Rattle.parse_tree.specs.declared.syntax.Span.{Span}
use Rattle.passes.specs.Outcome.{Tree}
use Rattle.meaning.specs.Phrases.{Token, bare_token, quoted_token, regex_token, error_token, Phrase, Phrases, token, reference, DerivesFrom, DeriveFrom, d_token, d_step}
use Rattle.meaning.specs.Meaning.{is_terminal, named, mean_leaf, mean_around, mean, means, Step, s_plain, s_level}
use Rattle.meaning.specs.Premises.{HasItem, is_flat_leaf, is_flat_around, is_flat, FlatSyms}
use Rattle.meaning.proofs.Basics.{test}
use Rattle.meaning.proofs.Predicates.{Ident, is_compound}
use Rattle.meaning.proofs.Macros.Reader.{uniq}
use Rattle.meaning.proofs.Simulation.{All2, a_nil, a_cons, simulate}
use Rattle.meaning.proofs.Macros.Sources.{Name, SrcLeaf, Src, Srcs, s_leaf, s_around, s_over, s_nil, s_cons}

-- symbols that say ms, with nothing left to expand
abbrev pub FlatSrcs : Tree → (Text → Type 0) → Syms → Phrases → Type 0
FlatSrcs G Known xs ms = Srcs G Known xs ms × FlatSyms xs

-- the item d has just the alternatives that the symbol of its name has in G
pub record Made (G : Tree) (P : Syms → Phrases → Type 0) (d : Nonterminal) : Type 0 where
  pub says : Phrase
  pub named : Name G d.name says
  pub plain : d.args ≡ []
  pub forth : (a : Alternative) → Memᴰ a d.alternatives → (ms : Phrases) × Step false G says ms × P a.symbols ms
  pub back : (ms : Phrases) → Step false G says ms → (a : Alternative) × Memᴰ a d.alternatives × P a.symbols ms

abbrev pub anywhere : Span
anywhere = record { 0 = 0; 1 = 0 }

module _ (G X : Tree) (idents : (n : Text) → is_terminal G n ≡ true → Ident n) where
  -- a name says one thing
  pub one_meaning : {n : Text} {m m' : Phrase} → Name G n m → Name G n m' → m ≡ m'
  one_meaning a b = sym a.says ∙ uniq G a.from b.from a.pure b.pure (sym a.prints ∙ b.prints) ∙ b.says

  -- and is no terminal
  pub not_terminal : {n : Text} {m : Phrase} → Name G n m → is_terminal G n ≡ false
  unfolding mean print shown shown_leaf
  not_terminal {n} {m} a = go (test (is_terminal G n))
    where
      as_token : is_terminal G n ≡ true → token (bare_token n) ≡ m
      as_token e = uniq G (leaf anywhere (bare n)) a.from (idents n e, e) a.pure (append-nil n ∙ a.prints) ∙ a.says

      go : (is_terminal G n ≡ true) ⊎ (is_terminal G n ≡ false) → is_terminal G n ≡ false
      go (inl e) = absurd (false≢true (ap is_compound (as_token e) ∙ a.no_token))
      go (inr e) = e

  module _ (terminals : (n : Text) → is_terminal X n ≡ is_terminal G n)
      (good : (d : Nonterminal) → Memᴰ (item d) X → Made G (FlatSrcs G (HasItem X)) d) where
    pub data Rel : Phrase → Phrase → Type 0 where
      r_token : {t : Token} → Rel (token t) (token t)
      r_name : {n : Text} {m : Phrase} → Name G n m → HasItem X n → Rel (reference n none) m

    -- ---- flat symbols say in X what they stand for in G
    rel_token : (t : Token) {m : Phrase} → m ≡ token t → Rel (token t) m
    rel_token t e = subst (Rel (token t)) (sym e) r_token

    rel_leaf : (l : Leaf) {m : Phrase} → SrcLeaf G (HasItem X) l m → is_flat_leaf l ≡ true → Rel (mean_leaf X [] l) m
    unfolding named has
    rel_leaf (ambiguous n) h f = absurd h
    rel_leaf (bare n) (p, e) f = rel_token (bare_token n) e
    rel_leaf (quoted t) (p, e) f = rel_token (quoted_token t) e
    rel_leaf (regex t) (p, e) f = rel_token (regex_token t) e
    rel_leaf (nonterminal n) {m} (k, h) f = subst (λ (b : Bool). Rel (cond b (token (bare_token n)) (reference n none)) m) (sym (terminals n ∙ not_terminal k)) (r_name k h)
    rel_leaf lookahead h f = absurd (false≢true f)
    rel_leaf lookbehind h f = absurd (false≢true f)
    rel_leaf error (p, e) f = rel_token error_token e

    rel_around : (a : Around) (b : Bool) {x k m : Phrase} → (b ≡ true → Rel x k) → m ≡ mean_around G [] a k → is_flat_around a b ≡ true → Rel (mean_around X [] a x) m
    rel_around (repeat o) b r e f = absurd (false≢true f)
    rel_around choose b {x} r e f = subst (Rel x) (sym e) (r f)
    rel_around (name m n) b {x} r e f = subst (Rel x) (sym e) (r f)

    rel_symbol : {x : Sym} {m : Phrase} → Src G (HasItem X) x m → is_flat x ≡ true → Rel (mean X [] x) m
    unfolding mean
    rel_symbol (s_leaf {l = l} h) f = rel_leaf l h f
    rel_symbol (s_around {a = a} {x = x} i h e) f = rel_around a (is_flat x) (rel_symbol h) e f
    rel_symbol (s_over k hs e) f = absurd (false≢true f)

    rel_symbols : {xs : Syms} {ms : Phrases} → Srcs G (HasItem X) xs ms → FlatSyms xs → All2 Rel (means X [] xs) ms
    unfolding mean
    rel_symbols s_nil f = a_nil
    rel_symbols (s_cons h hs) f = a_cons (rel_symbol h f.0) (rel_symbols hs f.1)

    abbrev Rel' : Phrase → Phrase → Type 0
    Rel' m x = Rel x m

    swap : {xs ms : Phrases} → All2 Rel xs ms → All2 Rel' ms xs
    swap a_nil = a_nil
    swap (a_cons r a) = a_cons r (swap a)

    -- the item of a name says what the name says
    agree : {n : Text} {m : Phrase} → Name G n m → (d : Nonterminal) (g : Memᴰ (item d) X) → d.name ≡ n → (good d g).says ≡ m
    agree k d g e = one_meaning (subst (λ (z : Text). Name G z (good d g).says) e (good d g).named) k

    -- ---- from X to G
    tokens : (t : Token) (y : Phrase) → Rel (token t) y → (w : List Token) → w ≡ t ∷ [] → DerivesFrom (Step false G) y w
    tokens t y r_token w e = d_token e

    abbrev Answer : Phrase → Phrases → Type 0
    Answer m xs = (ms : Phrases) × All2 Rel xs ms × ((w : List Token) → DeriveFrom (Step false G) ms w → DerivesFrom (Step false G) m w)

    at_name : (n : Text) (m : Phrase) (xs : Phrases) → Name G n m → Step false X (reference n none) xs → Answer m xs
    at_name n m xs k (s_plain d a g e p h l q) =
        let (ms, st, fl) = (good d g).forth a h in
        (ms, subst (λ (z : Phrases). All2 Rel z ms) (sym q) (rel_symbols fl.0 fl.1), λ w ds. d_step ms (subst (λ (z : Phrase). Step false G z ms) (agree k d g e) st) ds)
    at_name n m xs k (s_level d g' g e p h l u q) = absurd (false≢true l)

    steps : (x m : Phrase) (xs : Phrases) → Rel x m → Step false X x xs → Answer m xs
    steps x m xs r_token s = elim s [ ]
    steps x m xs (r_name k h) s = at_name _ m xs k s

    pub sound : {x m : Phrase} {w : List Token} → DerivesFrom (Step false X) x w → Rel x m → DerivesFrom (Step false G) m w
    sound = simulate (Step false X) (Step false G) Rel tokens steps

    -- ---- from G to X
    tokens' : (t : Token) (x : Phrase) → Rel x (token t) → (w : List Token) → w ≡ t ∷ [] → DerivesFrom (Step false X) x w
    tokens' t x r_token w e = d_token e
    tokens' t x (r_name k h) w e = absurd (false≢true k.no_token)

    abbrev Answer' : Phrase → Phrases → Type 0
    Answer' x ms = (xs : Phrases) × All2 Rel' ms xs × ((w : List Token) → DeriveFrom (Step false X) xs w → DerivesFrom (Step false X) x w)

    steps' : (m x : Phrase) (ms : Phrases) → Rel x m → Step false G m ms → Answer' x ms
    steps' m x ms r_token s = elim s [ ]
    steps' m x ms (r_name {n = n} k (d, g, e, p)) s =
        let (a, i, fl) = (good d g).back ms (subst (λ (z : Phrase). Step false G z ms) (sym (agree k d g e)) s) in
        (means X [] a.symbols, swap (rel_symbols fl.0 fl.1), λ w ds. d_step (means X [] a.symbols) (s_plain d a g e p i refl refl) ds)

    pub complete : {x m : Phrase} {w : List Token} → DerivesFrom (Step false G) m w → Rel x m → DerivesFrom (Step false X) x w
    complete d r = simulate (Step false G) (Step false X) Rel' tokens' steps' d r
