-- The ways out of text_length. Assumes nothing.
use mathlib.Core.Path.{◌≡◌, sym, ap, ◌∙◌}
use mathlib.Core.List.{List, [], ◌∷◌}
use Prim.Native.Nat.{ℕ, zero, suc, ◌+◌, ◌*◌, ◌/◌, ◌%◌, ◌<◌, ◌≤◌}
use native.Mathlib.Omega.{arith}
use borrow.Author.Rules.{rules}
use borrow.Author.Tests.{ne_eqb, lt-ltb, le-ltb}
use lib.ListN.{length, get_or}
use Rattle.octets.specs.Working.Choice.{pick}
use Rattle.parse_tree.specs.Plain.Tree.{Text}
use Rattle.parse_tree.specs.Working.Within.{Each}
use Rattle.laws.specs.Keys.{built_ins}
use Rattle.texts.specs.Fields.{cell_at}
use Rattle.texts.specs.Forms.{stop}
use Rattle.expander.specs.declared.Ground.{Ground}
use Rattle.expander.specs.declared.entries.NewText.{NewText}
use Rattle.expander.specs.Ground.{top_of, Grounded}
use Rattle.expander.specs.Entries.{entry_code}
use Rattle.expander.specs.Names.{described_by}
use Rattle.expander.proofs.NamedTexts.{described_even}
use Rattle.appending.specs.Built.{built_text}
use Rattle.settling.specs.One.{Entry}

-- ---- lengths, stopped
pub stop-less : (n : ℕ) → n < 65536 → stop n ≡ n
unfolding stop pick
stop-less n l = cc (lt-ltb n 65536 l)

pub stop-full : (n : ℕ) → 65536 ≤ n → stop n ≡ 65536
unfolding stop pick
stop-full n l = cc (le-ltb n 65536 l)

-- ---- built-in texts are short
each-small : (ts : List Text) → Each (λ (t : Text). length t ≤ 31) ts → (k : ℕ) → length (get_or ts k []) ≤ 31
each-small [] h k = omega arith
each-small (t ∷ ts) h zero = h.0
each-small (t ∷ ts) h (suc k) = each-small ts h.1 k

pub built_small : (k : ℕ) → length (built_text k) ≤ 31
unfolding built_text built_ins
built_small k = each-small built_ins (omega arith, (omega arith, (omega arith, (omega arith, (omega arith, (omega arith, (omega arith, (omega arith, (omega arith, tt))))))))) k

-- ---- the text of an entry
module _ (s w : List ℕ) (g : Ground) (v : ℕ) where
  pub described_odd : (v % 2 ≡ 0 → ⊥) → described_by s w g v ≡ built_text (v / 2)
  unfolding described_by built_text pick
  described_odd e = cc (ne_eqb (v % 2) 0 e)

-- ---- a new text x
module _ (x : NewText) where
  -- the print of record j
  module _ (j : ℕ) (i : x ≡ NewText.Print j) where
    print_code : entry_code x ≡ 2 * j
    print_code = ap entry_code i

    pub print_even : entry_code x % 2 ≡ 0
    print_even = omega (arith, print_code)

    pub print_half : entry_code x / 2 ≡ j
    print_half = omega (arith, print_code)

  -- the k-th built-in text
  module _ (k : ℕ) (i : x ≡ NewText.BuiltIn k) where
    built_code : entry_code x ≡ 2 * k + 1
    built_code = ap entry_code i

    pub built_odd : entry_code x % 2 ≡ 1
    built_odd = omega (arith, built_code)

    pub built_half : entry_code x / 2 ≡ k
    built_half = omega (arith, built_code)

  module _ (s w : List ℕ) (g : Ground) where
    module _ (j : ℕ) (i : x ≡ NewText.Print j) where
      pub cell_room : Grounded s w g → Entry s w g (entry_code x) → g.keys + 24 * j + 24 ≤ length w
      unfolding top_of
      cell_room G E = omega (arith, E.room (print_even j i), print_half j i, G.fits, G.top)

      pub print-long : Entry s w g (entry_code x) → (n r : ℕ) → n ≡ cell_at w g.keys j → r ≡ n → r ≡ stop (length (described_by s w g (entry_code x)))
      print-long E n r p q =
          q ∙ p ∙ ap (cell_at w g.keys) (sym (print_half j i)) ∙ E.size (print_even j i)
          ∙ ap (λ (t : Text). stop (length t)) (sym (described_even s w g (entry_code x) (print_even j i)))

    module _ (k : ℕ) (i : x ≡ NewText.BuiltIn k) where
      pub built_below : Entry s w g (entry_code x) → k < 9
      built_below E = omega (arith, E.built (built_odd k i), built_half k i)

      pub described_built : described_by s w g (entry_code x) ≡ built_text k
      described_built = described_odd s w g (entry_code x) (λ e. omega (arith, e, built_odd k i)) ∙ ap built_text (built_half k i)

      pub built_long_lem : (r : ℕ) → r ≡ length (built_text k) → r ≡ stop (length (described_by s w g (entry_code x)))
      built_long_lem r p = p ∙ sym (stop-less (length (built_text k)) (omega (arith, built_small k))) ∙ ap (λ (t : Text). stop (length t)) (sym described_built)

pub ruleset lengthening = (rules, cell_room, built_below, print-long, built_long_lem)
