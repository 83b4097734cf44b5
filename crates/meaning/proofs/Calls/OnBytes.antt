-- Demand 3 on the bytes of the call for all: the tape handed in against the bytes that the output then holds. Assumes nothing.
use mathlib.Core.Path.{◌≡◌, refl, sym, ap, ◌∙◌}
use mathlib.Core.Logic.{◌↔◌}
use mathlib.Core.Bool.{true, false}
use mathlib.Core.List.{List, [], ◌∷◌}
use Prim.Native.Nat.{ℕ, ◌+◌, ◌*◌, ◌≤◌}
use native.Mathlib.Omega.{arith}
use lib.ListN.{length, take, drop}
use lib.Seq.{take-append_seam}
use Rattle.octets.specs.Plain.Numbers.{Bytes}
use Rattle.parse_tree.specs.Plain.Tree.{Text, Stage}
use Rattle.parse_tree.specs.Plain.Reading.{got}
use Rattle.parse_tree.specs.Plain.ReadTape.{read_tape}
use Rattle.parse_tree.proofs.ReadTapeIs.{read_is}
use Rattle.parse_tree.specs.Plain.WriteTape.{tape_of}
use Rattle.parse_tree.specs.Working.Within.{StageWithin}
use Rattle.parse_tree.proofs.Written as Tape
use Rattle.passes.specs.Outcome.{Outcome, yes, no}
use Rattle.meaning.specs.Phrases.{Token}
use Rattle.meaning.specs.Meaning.{Derives, DerivesExpanded}
use Rattle.meaning.specs.Premises.{Unmarked, HasItem, Flat}
use Rattle.passes.specs.Stages.{all_stages}
use Rattle.passes.specs.Calls.{sizes, validate_call, whole, answer_words, written}
use Rattle.passes.proofs.Outcomes.{after-yes}
use Rattle.meaning.proofs.Calls.Staged.{opened, whole_higher}
use Rattle.meaning.proofs.Calls.Agreement.{whole_passes}
use Rattle.meaning.proofs.Macros.TreeRounds.{pass_tree, passes-tree}
use Rattle.meaning.proofs.Calls.Tapes.{unresolved}
use Rattle.meaning.proofs.Calls.Output.{output_read}
use Rattle.meaning.proofs.Calls.Demand3.{derives, flat}

got_value : {A : Type 0} (x y : A) (i j : ℕ) → got x i ≡ got y j → x ≡ y
got_value x y i j e = cc

-- the bytes that the output holds at a yes begin with the tree's
front : (r : Outcome Stage) (g : Stage) (n : ℕ) → r ≡ yes g → n ≡ length (tape_of 2 g) → (old : List ℕ) → take n (written 2 r old) ≡ tape_of 2 g
unfolding written
front r g n e long old =
    ap (λ (x : Outcome Stage). take n (written 2 x old)) e ∙ ap (λ (m : ℕ). take m (written 2 (yes g) old)) long ∙ take-append_seam (tape_of 2 g) (drop (length (tape_of 2 g)) old)

-- "A yes gives the length of the tree written"
answered : (r : Outcome Stage) (n : ℕ) → answer_words 2 r ≡ 1 ∷ n ∷ 0 ∷ 0 ∷ 0 ∷ [] → (g : Stage) × (r ≡ yes g) × (n ≡ length (tape_of 2 g))
unfolding answer_words
answered (yes g) n e = (g, refl, cc)
answered (no m s) n e = absurd (let z : ◌≡◌ {A = ℕ} 0 1 = cc in omega arith)

-- the call for all answered a yes with n bytes: then the tape is that of a tree, and so are the first n bytes that the output holds
module _ (tape output work : List ℕ) (limit n : ℕ) (bytes : Bytes tape) (accepted : answer_words 2 (whole true 2 tape limit (length output) (length work)) ≡ 1 ∷ n ∷ 0 ∷ 0 ∷ 0 ∷ []) where
  pub tape_holds : (u : Stage) × (e : ℕ) × (read_tape true 2 tape ≡ got u e) × (validate_call true 2 tape (length output) (length work) ≡ yes u)
  unfolding whole
  tape_holds =
      let (g, yes-g, long) = answered (whole true 2 tape limit (length output) (length work)) n accepted in
      let (u, eu, e1) = after-yes (validate_call true 2 tape (length output) (length work)) (all_stages (sizes 2 (length output)) limit) g yes-g in
      let o = opened true 2 tape (length output) (length work) u eu in
      (u, o.end, o.decoded, eu)

  pub output_holds : (g : Stage) × (read_tape false 2 (take n (written 2 (whole true 2 tape limit (length output) (length work)) output)) ≡ got g n) × (whole true 2 tape limit (length output) (length work) ≡ yes g)
  output_holds =
      let (g, yes-g, long) = answered (whole true 2 tape limit (length output) (length work)) n accepted in
      let t = front (whole true 2 tape limit (length output) (length work)) g n yes-g long output in
      (g, ap (read_tape false 2) t ∙ output_read 2 true tape limit (length output) (length work) g bytes yes-g ∙ ap (got g) (sym long), yes-g)

-- the tape holds the grammar U; the call gave a yes to it, with n bytes; and the first n bytes of the output then hold the tree X
module _ (tape output work : List ℕ) (limit n e k : ℕ) (U X : Stage) (bytes : Bytes tape)
    (accepted : answer_words 2 (whole true 2 tape limit (length output) (length work)) ≡ 1 ∷ n ∷ 0 ∷ 0 ∷ 0 ∷ []) (reads : read_tape true 2 tape ≡ got U e)
    (holds : read_tape false 2 (take n (written 2 (whole true 2 tape limit (length output) (length work)) output)) ≡ got X k) (premises : Unmarked U.items) where
  run : pass_tree limit U.items ≡ yes X.items
  run =
      let (u, i, decoded, eu) = tape_holds tape output work limit n bytes accepted in
      let (g, wrote, yes-g) = output_holds tape output work limit n bytes accepted in
      let handed : u ≡ U = got_value u U i e (sym decoded ∙ reads) in
      let left : g ≡ X = got_value g X n k (sym wrote ∙ holds) in
      let p = whole_passes true 2 tape limit (length output) (length work) u eu g yes-g in
      ap (λ (z : Stage). pass_tree limit z.items) (sym handed) ∙ sym (passes-tree limit u.items) ∙ p ∙ ap (λ (z : Stage). yes z.items) left

  within : StageWithin true 2 U
  within = (Tape.written true 2 tape U e bytes (sym (read_is true 2 tape) ∙ reads)).within

  -- "the expanded tree derives the string from N exactly when G itself derives it from N"
  pub demand_3 : (N : Text) → HasItem U.items N → (w : List Token) → DerivesExpanded X.items N w ↔ Derives U.items N w
  demand_3 N h w = derives U.items X.items limit (unresolved U within premises) run N h w

  -- and nothing is left in it to expand
  pub demand_3_flat : Flat X.items
  demand_3_flat = flat U.items X.items limit (unresolved U within premises) run

-- "whatever higher recursion limit is handed in, the answer and the expanded tree's bytes are the same": an output no shorter, and work that passes question 1
module _ (tape output work output' work' : List ℕ) (l l' n : ℕ) (accepted : answer_words 2 (whole true 2 tape l (length output) (length work)) ≡ 1 ∷ n ∷ 0 ∷ 0 ∷ 0 ∷ [])
    (higher : l ≤ l') (longer : length output ≤ length output') (enough : 8 * (length tape + length output') ≤ length work') where
  again : whole true 2 tape l' (length output') (length work') ≡ whole true 2 tape l (length output) (length work)
  again =
      let (g, yes-g, long) = answered (whole true 2 tape l (length output) (length work)) n accepted in
      whole_higher true 2 tape l l' (length output) (length output') (length work) (length work') g higher longer enough yes-g ∙ sym yes-g

  -- theorem: the answer
  pub higher_answer : answer_words 2 (whole true 2 tape l' (length output') (length work')) ≡ 1 ∷ n ∷ 0 ∷ 0 ∷ 0 ∷ []
  higher_answer = ap (answer_words 2) again ∙ accepted

  -- theorem: and the tree's bytes
  pub higher_bytes : take n (written 2 (whole true 2 tape l' (length output') (length work')) output') ≡ take n (written 2 (whole true 2 tape l (length output) (length work)) output)
  higher_bytes =
      let (g, yes-g, long) = answered (whole true 2 tape l (length output) (length work)) n accepted in
      let here = front (whole true 2 tape l (length output) (length work)) g n yes-g long in
      ap (λ (x : Outcome Stage). take n (written 2 x output')) again ∙ here output' ∙ sym (here output)
