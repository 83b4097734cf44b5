-- One simulation lemma for every pass: related phrases derive the same token strings. Assumes nothing.
use mathlib.Core.Path.{◌≡◌}
use mathlib.Core.List.{List, [], ◌∷◌}
use Rattle.meaning.specs.Phrases.{Token, Phrase, Phrases, token, pnil, pcons, DerivesFrom, DeriveFrom, d_token, d_step, d_nil, d_cons}

-- related one by one
pub data All2 (rel : Phrase → Phrase → Type 0) : Phrases → Phrases → Type 0 where
  a_nil : All2 rel pnil pnil
  a_cons : {x y : Phrase} {xs ys : Phrases} → rel x y → All2 rel xs ys → All2 rel (pcons x xs) (pcons y ys)

-- a step may be answered by any derivation from related phrases, not only by a step: so a fall-through fits too
module _ (R S : Phrase → Phrases → Type 0) (rel : Phrase → Phrase → Type 0)
    (tokens : (t : Token) (y : Phrase) → rel (token t) y → (w : List Token) → w ≡ t ∷ [] → DerivesFrom S y w)
    (steps : (x y : Phrase) (xs : Phrases) → rel x y → R x xs → (ys : Phrases) × All2 rel xs ys × ((w : List Token) → DeriveFrom S ys w → DerivesFrom S y w)) where
  mutual
    pub simulate : {x y : Phrase} {w : List Token} → DerivesFrom R x w → rel x y → DerivesFrom S y w
    simulate {y} (d_token {t = t} {w = w} e) r = tokens t y r w e
    simulate {y} (d_step {m = m} {w = w} ms s ds) r = let (ys, a, back) = steps m y ms r s in back w (simulates ds a)

    pub simulates : {xs ys : Phrases} {w : List Token} → DeriveFrom R xs w → All2 rel xs ys → DeriveFrom S ys w
    simulates (d_nil e) a_nil = d_nil e
    simulates (d_cons u v e d ds) (a_cons r a) = d_cons u v e (simulate d r) (simulates ds a)

-- where every step of one is a step of the other
module _ (R S : Phrase → Phrases → Type 0) (f : (m : Phrase) (ms : Phrases) → R m ms → S m ms) where
  mutual
    pub include : {m : Phrase} {w : List Token} → DerivesFrom R m w → DerivesFrom S m w
    include (d_token e) = d_token e
    include (d_step {m = m} ms s ds) = d_step ms (f m ms s) (includes ds)

    pub includes : {ms : Phrases} {w : List Token} → DeriveFrom R ms w → DeriveFrom S ms w
    includes (d_nil e) = d_nil e
    includes (d_cons u v e d ds) = d_cons u v e (include d) (includes ds)
