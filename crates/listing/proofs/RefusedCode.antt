-- The ways out of put_led and list_refusal. Assumes nothing.
use mathlib.Core.List.{List, [], ◌∷◌}
use Prim.Native.Nat.{ℕ}
use borrow.Author.Rules.{rules}
use Rattle.parse_tree.specs.declared.refusal.Refusal.{Refusal}
use Rattle.passes.specs.Levels.{number_digits}
use Rattle.precedence.specs.Write.{Puts}
use Rattle.settling.proofs.PutLaws.{then}
use Rattle.listing.specs.Listing.{listed}
use Rattle.listing.specs.Tree.{refused_word, refused_by, places_text}

pub led_put : (w w1 w2 : List ℕ) (b v lim to q r : ℕ) → Puts w lim to (b ∷ []) q w1 → Puts w1 lim q (number_digits v) r w2 → Puts w lim to (b ∷ number_digits v) r w2
led_put w w1 w2 b v lim to q r x y = then x y

pub refused_put : (w : List ℕ) (lim to r : ℕ) (w1 : List ℕ) → Puts w lim to (114 ∷ 101 ∷ 102 ∷ 117 ∷ 115 ∷ 101 ∷ 100 ∷ []) r w1 → Puts w lim to refused_word r w1
unfolding refused_word
refused_put w lim to r w1 p = p

pub places-put : (w w1 w2 w3 : List ℕ) (from end lim to a b r : ℕ) → Puts w lim to (32 ∷ number_digits from) a w1 → Puts w1 lim a (32 ∷ number_digits end) b w2 → Puts w2 lim b (10 ∷ []) r w3
    → Puts w lim to (places_text from end) r w3
unfolding places_text
places-put w w1 w2 w3 from end lim to a b r p q u = then p (then q u)

pub refusal_put : (w w1 w2 w3 : List ℕ) (why : Refusal) (lim to a b r : ℕ) → Puts w lim to refused_word a w1 → Puts w1 lim a (32 ∷ number_digits why.number) b w2
    → Puts w2 lim b (places_text why.from why.to) r w3 → Puts w lim to (listed (refused_by why)) r w3
unfolding listed refused_by refused_word places_text
refusal_put w w1 w2 w3 why lim to a b r p q u = then p (then q u)

pub ruleset leading = (rules, led_put)

pub ruleset refusing = (rules, refused_put, places-put, refusal_put)
