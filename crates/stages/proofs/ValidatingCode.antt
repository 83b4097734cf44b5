-- The ways out of `validate_tape`: a tape that is read is the tape of its tree, so it is as long. Assumes nothing.
use mathlib.Core.Path.{◌≡◌, sym, ap, ◌∙◌}
use mathlib.Core.Bool.{true}
use mathlib.Core.List.{List}
use Prim.Native.Nat.{ℕ}
use borrow.Author.Rules.{rules}
use lib.ListN.{length, get_or, replicate}
use mir.Syntax.{w8}
use mir.Val as Bound
use Rattle.parse_tree.specs.Plain.Tree.{Stage}
use Rattle.parse_tree.specs.Plain.Reading.{Reading}
use Rattle.parse_tree.specs.Plain.ReadTape.{read_tape}
use Rattle.parse_tree.specs.Plain.WriteTape.{tape_of}
use Rattle.parse_tree.specs.Working.Decode.{decode_by}
use Rattle.parse_tree.specs.declared.refusal.Refusal.{Refusal}
use Rattle.parse_tree.proofs.ReadTapeIs.{read_is}
use Rattle.parse_tree.proofs.WriteTapeIs.{tape_is}
use Rattle.parse_tree.proofs.Written.{written}
use Rattle.texts.specs.Atoms.{atoms_of}
use Rattle.validate.specs.Steps.{Refuses}
use Rattle.validate.specs.Whole.{Valid, Validates}
use Rattle.validate.specs.declared.Validated.{Validated}
use Rattle.passes.specs.Calls.{read_as}
use Rattle.output.specs.Plain.Answers.{answer_of}
use Rattle.std.specs.Prelude.{Result, Ok, Err}
use Rattle.stages.specs.Stages.{Judged}

-- x is what `validate` answered, w₁ what it left of work, w₂ what `fill` left
module _ (s w w₁ w₂ : List ℕ) (x : Result Validated Refusal) (i : Validates true 2 s x w₁) (l : length w₁ ≡ length w) (c : w₂ ≡ replicate (length w₁) 0) where
  judged : (r : Result ℕ Refusal) → r ≡ answer_of (read_as (read_tape true 2 s)) → Judged s w r w₂
  judged r e = record { answered = e; zeroed = c ∙ ap (λ (n : ℕ). replicate n 0) l }

  pub tape_refused : (why : Refusal) → x ≡ Err why → Judged s w (Err why) w₂
  unfolding Validates answer_of
  tape_refused why e =
      let n : Refuses (decode_by true 2 s) why = rw e at i in
      judged (Err why) (ap (λ (k : ℕ). Err (record { number = why.number; from = why.from; to = k })) n.twice
      ∙ sym (ap (λ (r : Reading Stage). answer_of (read_as r)) (read_is true 2 s ∙ n.is)))

  pub tape_valid : (u : Validated) → x ≡ Ok u → ((j : ℕ) → Bound.Fits w8 (get_or s j 0)) → Judged s w (Ok (length s)) w₂
  unfolding Validates answer_of
  tape_valid u e b =
      let v : Valid true 2 s w₁ u.atoms u.at u.items = rw e at i in
      let g : Stage = record { atoms = atoms_of s u.atoms.texts.count; items = v.items } in
      let t : tape_of 2 g ≡ s = tape_is 2 g ∙ (written true 2 s g (length s) (λ j. (b j).fits) v.decoded).bytes in
      judged (Ok (length s)) (ap (λ (y : List ℕ). Ok (length y)) (sym t) ∙ sym (ap (λ (r : Reading Stage). answer_of (read_as r)) (read_is true 2 s ∙ v.decoded)))

pub ruleset tapes = (rules, tape_refused, tape_valid)
