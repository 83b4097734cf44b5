-- A tape that was resolved: its stage, and what is answered to it. Assumes nothing.
use mathlib.Core.Path.{◌≡◌, refl, sym, ap, subst, ◌∙◌}
use mathlib.Core.Bool.{Bool, true, false}
use mathlib.Core.List.{List, ◌++◌, append_assoc}
use Prim.Native.Nat.{ℕ, ◌+◌, ◌-◌, ◌≤◌}
use native.Mathlib.Omega.{arith}
use borrow.Author.Tests.{ltb-true, ltb-false}
use lib.Dec.{ltb}
use lib.ListN.{length, drop, length-append}
use Rattle.octets.specs.Working.Choice.{pick}
use Rattle.octets.specs.Plain.Runs.{part}
use Rattle.octets.proofs.PartLaws.{part_length}
use Rattle.parse_tree.specs.Plain.Tree.{Stage}
use Rattle.parse_tree.specs.Plain.Reading.{Reading, got, refused}
use Rattle.parse_tree.specs.Plain.WriteTape.{tape_of}
use Rattle.parse_tree.specs.Plain.References.{stage_of}
use Rattle.parse_tree.specs.Working.Decode.{decode}
use Rattle.parse_tree.specs.Working.Encode.{stage_bytes}
use Rattle.parse_tree.specs.Working.Refusals.{refusal_at, refusal_over}
use Rattle.parse_tree.specs.declared.refusal.Refusal.{Refusal}
use Rattle.parse_tree.proofs.WriteTapeIs.{tape_is}
use Rattle.texts.specs.declared.Map.{Map}
use Rattle.passes.specs.Outcome.{Tree, Outcome, yes, no, after}
use Rattle.passes.specs.Resolve.{resolve}
use Rattle.passes.specs.Stages.{stage, resolve_stage}
use Rattle.passes.specs.Calls.{read_as, sizes, written}
use Rattle.resolve.specs.declared.Grammar.{Grammar}
use Rattle.output.specs.Plain.Answers.{answer_of}
use Rattle.std.specs.Prelude.{Result, Ok, Err}
use Rattle.output.specs.Working.Judging.{sized}
use Rattle.output.specs.Working.Handing.{Staged, handed}
use Rattle.stages.specs.declared.Resolved.{Resolved}
use Rattle.stages.specs.Levelling.{SomeResolved}
use Rattle.stages.specs.Stages.{StandsBy, TapeReads, TapeResolves, resolved}
use Rattle.stages.proofs.ResolvingMean.{admit_many, admit_long, admit_done}

is_no : (r : Resolved) (why : Refusal) → Ok r ≡ Err why → ⊥
is_no r why e = let z : ◌≡◌ {A = ℕ} 0 1 = cc in omega arith

-- x is what `resolve_tape` answered, and w what it left
module _ (s : List ℕ) (x : Result Resolved Refusal) (w : List ℕ) (i : TapeResolves s x w) where
  pub stage_refused : (o : List ℕ) (why : Refusal) → x ≡ Err why → Staged (resolved s (length o)) o (Err why) o
  unfolding TapeResolves TapeReads StandsBy resolved resolve_stage answer_of written refusal_at refusal_over
  stage_refused o why e = go (decode s) refl i
    where
      by : (g : Stage) (z : Outcome Tree) → StandsBy s g z x w → Staged (after z (λ R. stage (sizes 2 (length o)) g.atoms R)) o (Err why) o
      by g (yes R) k = absurd (is_no k.found why (sym k.is ∙ e))
      by g (no q p) k = let z : why ≡ refusal_over q p = cc in record { answered = rw z refl; tree = refl }

      go : (z : Reading Stage) → decode s ≡ z → TapeReads s z x w → Staged (after (read_as z) (resolve_stage (sizes 2 (length o)))) o (Err why) o
      go (got g k) p h = by g (resolve g.items) h
      go (refused q k) p h = let z : why ≡ refusal_at q k = cc in record { answered = rw z refl; tree = refl }

  pub stood : (r : Resolved) → x ≡ Ok r → SomeResolved s w r.texts r.grammar r.at
  unfolding TapeResolves TapeReads StandsBy
  stood r e = go (decode s) refl i
    where
      by : (g : Stage) (k : ℕ) → decode s ≡ got g k → (z : Outcome Tree) → resolve g.items ≡ z → StandsBy s g z x w → SomeResolved s w r.texts r.grammar r.at
      by g k p (no q sp) y h = absurd (is_no r (refusal_over q sp) (sym e ∙ h))
      by g k p (yes R) y h =
          let c : h.found ≡ r = cc h.is in
          let d : SomeResolved s w h.found.texts h.found.grammar h.found.at = record {
            tape = g;
            end = k;
            tree = R;
            decoded = p;
            is = y;
            within = h.within;
            many = h.many;
            inside = h.inside;
            atoms = h.atoms;
            room = h.room;
            items = h.items;
            levels = h.levels;
          } in
          subst (λ (u : Resolved). SomeResolved s w u.texts u.grammar u.at) c d

      go : (z : Reading Stage) → decode s ≡ z → TapeReads s z x w → SomeResolved s w r.texts r.grammar r.at
      go (got g k) p h = by g k p (resolve g.items) refl h
      go (refused q k) p h = absurd (is_no r (refusal_at q k) (sym e ∙ h))

  pub stage_stands : (r : Resolved) → x ≡ Ok r → TapeResolves s (Ok r) w
  stage_stands r e = rw (← e) i

-- ---- the stage of a resolved tape
module _ (s w : List ℕ) (m : Map) (t : Grammar) (at : ℕ) (d : SomeResolved s w m t at) where
  abbrev pub tree_of : Stage
  tree_of = record { atoms = d.tape.atoms; items = d.tree }

  pub bytes_are : stage_bytes 2 tree_of ≡ part 0 at s ++ part t.at (t.at + (length s - at)) w
  unfolding stage_bytes
  bytes_are = rw (d.atoms, d.items) refl

  pub size_is : length (stage_bytes 2 tree_of) ≡ length s
  size_is =
      ap length bytes_are
      ∙ omega (arith, d.inside, length-append (part 0 at s) (part t.at (t.at + (length s - at)) w), part_length 0 at s d.inside, part_length t.at (t.at + (length s - at)) w d.room)

  pub said : (cap : ℕ) → resolved s cap ≡ sizes 2 cap (stage_of d.tape.atoms d.tree)
  unfolding resolved resolve_stage
  said cap = rw (d.decoded, d.is) refl

  -- where it is admitted
  module _ (few : m.count ≤ 65536) where
    pub said_yes : (cap : ℕ) → length s ≤ cap → resolved s cap ≡ yes tree_of
    said_yes cap fits = said cap ∙ admit_done d.tape d.tree d.is d.within cap (omega (arith, d.many)) (omega (arith, size_is))

    pub stood_yes : (o o' : List ℕ) → length s ≤ length o → o' ≡ handed at s t.at w o → Staged (resolved s (length o)) o (Ok (length s)) o'
    unfolding answer_of written handed
    stood_yes o o' fits h =
        let u : tape_of 2 tree_of ≡ part 0 at s ++ part t.at (t.at + (length s - at)) w = tape_is 2 tree_of ∙ bytes_are in
        let l : length (tape_of 2 tree_of) ≡ length s = ap length (tape_is 2 tree_of) ∙ size_is in
        rw (said_yes (length o) fits)
        (record {
          answered = ap Ok (sym l);
          tree = h ∙ sym (append_assoc (part 0 at s) (part t.at (t.at + (length s - at)) w) (drop (length s) o)) ∙ (let g : drop (length (tape_of 2 tree_of)) o ≡ drop (length s) o = ap (λ (k : ℕ). drop k o) l in cc);
        })

-- ---- handed over where `judge` admits it
module _ (s w : List ℕ) (r : Resolved) (i : TapeResolves s (Ok r) w) where
  abbrev d : SomeResolved s w r.texts r.grammar r.at
  d = stood s (Ok r) w i r refl

  -- y is what `judge` answered
  module _ (o : List ℕ) (y : Result (Unit {0}) Refusal) (j : y ≡ sized r.texts.count (length s) (length o)) where
    -- by what is asked of the sizes
    Judges : Bool → Bool → Type 0
    Judges many long = y ≡ pick many (Err (refusal_at 20 0)) (pick long (Err (refusal_at 21 0)) (Ok tt))

    judges : Judges (ltb 65536 r.texts.count) (ltb (length o) (length s))
    unfolding sized Judges
    judges = j

    yes_no : (u : Unit {0}) (why : Refusal) → Ok u ≡ Err why → ⊥
    yes_no u why z = let q : ◌≡◌ {A = ℕ} 0 1 = cc in omega arith

    pub stage_no : (why : Refusal) → y ≡ Err why → Staged (resolved s (length o)) o (Err why) o
    unfolding Judges pick answer_of written refusal_at
    stage_no why z = rw (said s w r.texts r.grammar r.at d (length o)) (go (ltb 65536 r.texts.count) refl (ltb (length o) (length s)) refl judges)
      where
        go : (a : Bool) → ltb 65536 r.texts.count ≡ a → (b : Bool) → ltb (length o) (length s) ≡ b → Judges a b → Staged (sizes 2 (length o) (stage_of d.tape.atoms d.tree)) o (Err why) o
        go true p b q k =
            let h = ltb-true 65536 r.texts.count p in
            let u : why ≡ refusal_at 20 0 = cc in
            rw (admit_many d.tape d.tree d.is d.within (length o) (omega (arith, d.many))) (record { answered = rw u refl; tree = refl })
        go false p true q k =
            let h = ltb-false 65536 r.texts.count p in
            let l = ltb-true (length o) (length s) q in
            let u : why ≡ refusal_at 21 0 = cc in
            rw (admit_long d.tape d.tree d.is d.within (length o) (omega (arith, d.many)) (omega (arith, size_is s w r.texts r.grammar r.at d))) (record { answered = rw u refl; tree = refl })
        go false p false q k = absurd (yes_no tt why (sym k ∙ z))

    module _ (u : Unit {0}) (z : y ≡ Ok u) where
      pub judged : (r.texts.count ≤ 65536) × (length s ≤ length o)
      unfolding Judges pick
      judged = go (ltb 65536 r.texts.count) refl (ltb (length o) (length s)) refl judges
        where
          go : (a : Bool) → ltb 65536 r.texts.count ≡ a → (b : Bool) → ltb (length o) (length s) ≡ b → Judges a b → (r.texts.count ≤ 65536) × (length s ≤ length o)
          go true p b q k = absurd (yes_no u (refusal_at 20 0) (sym z ∙ k))
          go false p true q k = absurd (yes_no u (refusal_at 21 0) (sym z ∙ k))
          go false p false q k = (ltb-false 65536 r.texts.count p, ltb-false (length o) (length s) q)
