-- `pending`: what prints as a symbol is among those of its form's hash. Assumes nothing.
use mathlib.Core.Path.{◌≡◌, sym, ap, ◌∙◌}
use mathlib.Core.Bool.{Bool, true}
use mathlib.Core.List.{List}
use Prim.Native.Nat.{ℕ, ◌+◌, ◌*◌, ◌<◌, ◌≤◌}
use native.Mathlib.Omega.{arith}
use borrow.Author.Rules.{rules}
use lib.ListN.{length}
use Rattle.octets.specs.Plain.Runs.{same_as}
use Rattle.octets.proofs.SameLaws.{same_as-eq}
use Rattle.std.specs.Prelude.{Option, Some, None}
use Rattle.texts.specs.Hash.{hash_of}
use Rattle.texts.specs.Fields.{hash_at}
use Rattle.texts.specs.Search.{Searched}
use Rattle.texts.proofs.SearchCode.{Picks, picked}
use Rattle.display.specs.declared.form.Form.{Form}
use Rattle.display.specs.Form.{text_form}
use Rattle.expander.specs.declared.Ground.{Ground}
use Rattle.expander.specs.Ground.{Grounded, Records, printed_at, key_at, top_of}
use Rattle.expander.specs.Find.{FindsKey}
use Rattle.expander.proofs.FindCode.{form_hash}

module _ (s w : List ℕ) (g : Ground) (n p : ℕ) (f : Form) (G : Grounded s w g) (R : Records s w g n) (a : f ≡ text_form (printed_at s w g p)) where
  pub keys_room : g.keys + 24 * n ≤ length w
  unfolding top_of
  keys_room = omega (arith, R.few, G.fits, G.top)

  pub heads_room : g.keys + 24 * g.buckets ≤ length w
  unfolding top_of
  heads_room = omega (arith, G.few, G.fits, G.top)

  -- a symbol that prints so has its hash
  key_of : (i : ℕ) → i < n → same_as (printed_at s w g (key_at w g i)) (printed_at s w g p) ≡ true → hash_at w g.keys i ≡ f.hash
  key_of i l d = R.hashes i l ∙ ap hash_of (same_as-eq (printed_at s w g (key_at w g i)) (printed_at s w g p) d) ∙ sym (form_hash (printed_at s w g p) f a)

  pub key_is : (A : ℕ → Bool → Type 0) (r : Option ℕ) → Searched A w g.keys n f.hash r → ((i : ℕ) (b : Bool) → A i b → b ≡ same_as (printed_at s w g (key_at w g i)) (printed_at s w g p)) → FindsKey s w g n p r
  unfolding Picks FindsKey
  key_is A r d same = found r (picked (λ i. same_as (printed_at s w g (key_at w g i)) (printed_at s w g p)) A w g.keys n f.hash r d same key_of)
    where
      found : (r : Option ℕ) → Picks (λ i. same_as (printed_at s w g (key_at w g i)) (printed_at s w g p)) n r → FindsKey s w g n p r
      found (Some i) z = (z.0, same_as-eq (printed_at s w g (key_at w g i)) (printed_at s w g p) z.1)
      found None z = z

pub ruleset tracing = (rules, keys_room, heads_room)
