-- Derivations: phrases, and the token strings that they derive. Assumes nothing: these are definitions.
use Rattle.std.specs.Prelude.{◌≡◌, ℕ, List, [], ◌∷◌, ◌++◌}
use Rattle.std.proofs.Math.Option.{Option}
use Rattle.parse_tree.specs.Plain.Tree.{Text, Op}

-- "Tokens are 21, 22, 23 by kind and text, and error"
pub data Token : Type 0 where
  bare_token quoted_token regex_token : Text → Token
  error_token : Token

-- what a symbol says once its names are looked up: a token, the item's own argument, a nonterminal (with the ceiling of this occurrence, if
-- it has one), a macro call, a repeat, a sequence
mutual
  pub data Phrase : Type 0 where
    token : Token → Phrase
    parameter : Text → Phrase
    reference : Text → Option ℕ → Phrase
    call : Text → Phrases → Phrase
    repeated : Op → Phrase → Phrase
    sequence : Phrases → Phrase

  pub data Phrases : Type 0 where
    pnil : Phrases
    pcons : Phrase → Phrases → Phrases

-- a phrase derives a token string where it is that token, or may be replaced by phrases that derive it one behind another.
-- "A derivation .. is finite": these are inductive
module _ (Step : Phrase → Phrases → Type 0) where
  mutual
    pub data DerivesFrom : Phrase → List Token → Type 0 where
      d_token : {t : Token} {w : List Token} → w ≡ t ∷ [] → DerivesFrom (token t) w
      d_step : {m : Phrase} {w : List Token} (ms : Phrases) → Step m ms → DeriveFrom ms w → DerivesFrom m w

    pub data DeriveFrom : Phrases → List Token → Type 0 where
      d_nil : {w : List Token} → w ≡ [] → DeriveFrom pnil w
      d_cons : {m : Phrase} {ms : Phrases} {w : List Token} (u v : List Token) → w ≡ u ++ v → DerivesFrom m u → DeriveFrom ms v → DeriveFrom (pcons m ms) w
