-- The ways out of built_length, put_bytes and put_built. Assumes nothing.
use mathlib.Core.Path.{◌≡◌, ap, ◌∙◌}
use mathlib.Core.List.{List, ◌∷◌, ◌++◌}
use Prim.Native.Nat.{ℕ, ◌+◌, ◌-◌, ◌<◌, ◌≤◌}
use native.Mathlib.Omega.{arith}
use borrow.Author.Rules.{rules}
use lib.ListN.{length}
use Rattle.octets.specs.Plain.Numbers.{le}
use Rattle.octets.specs.Working.Stores.{store}
use Rattle.parse_tree.specs.Plain.Tree.{Text}
use Rattle.parse_tree.specs.Working.Nodes.{node_bytes}
use Rattle.parse_tree.specs.Working.Encode.{atom_bytes}
use Rattle.texts.specs.Hash.{hash_of}
use Rattle.appending.specs.declared.built.BuiltIn.{BuiltIn}
use Rattle.appending.specs.Built.{number_of, built_text}
use Rattle.settling.proofs.OneCode.{built_small}
use Rattle.settling.specs.One.{TextPut}

-- ---- built_length and put_built: the k-th by its number
module _ (k : ℕ) (b : BuiltIn) (t : Text) (e : number_of b ≡ k) (f : t ≡ built_text (number_of b)) where
  text_is : t ≡ built_text k
  text_is = f ∙ ap built_text e

  pub built_long : length t ≡ length (built_text k)
  built_long = ap length text_is

  pub built_few : length t < 65536
  built_few = omega (arith, built_long, built_small k)

  pub built_room : (end : ℕ) → 34 ≤ end → length t + 3 ≤ end
  built_room end l = omega (arith, built_long, built_small k)

  pub puts_built : (w : List ℕ) (end r : ℕ) (w1 : List ℕ) → TextPut w t end r w1 → TextPut w (built_text k) end r w1
  puts_built w end r w1 p = rw text_is at p

pub ruleset by_number = (rules, built_long, built_few, built_room, puts_built)

-- ---- put_bytes: the command, then the text
module _ (w : List ℕ) (t : Text) (end to : ℕ) (e : to ≡ end - (length t + 3)) where
  pub bytes-room : length t + 3 ≤ end → end ≤ length w → to + 3 + length t ≤ length w
  bytes-room h l = omega arith

  pub bytes_put : (w1 : List ℕ) (r : ℕ) → w1 ≡ store w to ((1 ∷ le 2 (length t)) ++ t) → r ≡ hash_of t → TextPut w t end r w1
  unfolding atom_bytes node_bytes
  bytes_put w1 r j h = record { bytes = j ∙ ap (λ (p : ℕ). store w p (atom_bytes 2 t)) e; hash = h }

pub ruleset puts_bytes = (rules, bytes-room, bytes_put)
