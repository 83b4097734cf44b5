-- What the contract of normalize_whole says of the bytes that it was handed and wrote: demand 3, flatness, and any higher limit. Assumes nothing.
use mathlib.Core.Path.{◌≡◌, sym, ap, ◌∙◌}
use mathlib.Core.Logic.{◌↔◌}
use mathlib.Core.Bool.{true, false}
use mathlib.Core.List.{List, [], ◌∷◌}
use Prim.Native.Nat.{ℕ, ◌+◌, ◌*◌, ◌≤◌}
use lib.ListN.{length, take}
use Rattle.octets.specs.Plain.Numbers.{Bytes}
use Rattle.parse_tree.specs.Plain.Tree.{Text, Stage}
use Rattle.parse_tree.specs.Plain.Reading.{got}
use Rattle.parse_tree.specs.Plain.ReadTape.{read_tape}
use Rattle.passes.specs.Calls.{whole, answer_words}
use Rattle.meaning.specs.Phrases.{Token}
use Rattle.meaning.specs.Meaning.{Derives, DerivesExpanded}
use Rattle.meaning.specs.Premises.{Unmarked, HasItem, Flat}
use Rattle.meaning.proofs.Calls.OnBytes.{tape_holds, output_holds, demand_3, demand_3_flat, higher_answer, higher_bytes}
use Rattle.output.specs.Plain.Answers.{Exported}

-- a run of normalize_whole, by its contract: the words that answer then holds, the output and the work afterwards
module _ (tape output work words output' work' : List ℕ) (limit : ℕ) (run : Exported (whole true 2 tape limit (length output) (length work)) tape output work words output' work') (n : ℕ) (yes : words ≡ 1 ∷ n ∷ 0 ∷ 0 ∷ 0 ∷ []) where
  accepted : answer_words 2 (whole true 2 tape limit (length output) (length work)) ≡ 1 ∷ n ∷ 0 ∷ 0 ∷ 0 ∷ []
  accepted = sym run.answered ∙ yes

  module _ (bytes : Bytes tape) where
    -- theorem: the tape holds a tree, and so do the first n bytes of the output
    pub entry_tape : (U : Stage) × (e : ℕ) × (read_tape true 2 tape ≡ got U e)
    entry_tape = let (U, e, reads, called) = tape_holds tape output work limit n bytes accepted in (U, e, reads)

    pub entry_output : (X : Stage) × (read_tape false 2 (take n output') ≡ got X n)
    entry_output =
        let (X, reads, called) = output_holds tape output work limit n bytes accepted in
        (X, ap (λ (o : List ℕ). read_tape false 2 (take n o)) run.tree ∙ reads)

    -- U is the tape's tree, X the output's
    module _ (U X : Stage) (e k : ℕ) (reads : read_tape true 2 tape ≡ got U e) (wrote : read_tape false 2 (take n output') ≡ got X k) (premises : Unmarked U.items) where
      -- theorem: demand 3's first half
      pub entry_derives : (N : Text) → HasItem U.items N → (w : List Token) → DerivesExpanded X.items N w ↔ Derives U.items N w
      entry_derives = demand_3 tape output work limit n e k U X bytes accepted reads (sym (ap (λ (o : List ℕ). read_tape false 2 (take n o)) run.tree) ∙ wrote) premises

      -- theorem: no macro call, group, repeat or lookaround is left
      pub entry_flat : Flat X.items
      entry_flat = demand_3_flat tape output work limit n e k U X bytes accepted reads (sym (ap (λ (o : List ℕ). read_tape false 2 (take n o)) run.tree) ∙ wrote) premises

  -- another run with the same tape, any higher limit, an output no shorter, and work that passes question 1
  module _ (output₂ work₂ words₂ output₂' work₂' : List ℕ) (limit₂ : ℕ) (run₂ : Exported (whole true 2 tape limit₂ (length output₂) (length work₂)) tape output₂ work₂ words₂ output₂' work₂')
      (higher : limit ≤ limit₂) (longer : length output ≤ length output₂) (enough : 8 * (length tape + length output₂) ≤ length work₂) where
    -- theorem: demand 3's second half: the same answer
    pub entry_higher_answer : words₂ ≡ words
    entry_higher_answer = run₂.answered ∙ higher_answer tape output work output₂ work₂ limit limit₂ n accepted higher longer enough ∙ sym yes

    -- theorem: and the same bytes of the tree
    pub entry_higher_bytes : take n output₂' ≡ take n output'
    entry_higher_bytes =
        ap (take n) run₂.tree ∙ higher_bytes tape output work output₂ work₂ limit limit₂ n accepted higher longer enough ∙ ap (take n) (sym run.tree)
