-- The levelled stage of which the levels are written: its atoms, its bytes, and what is asked of its size. Assumes nothing.
use mathlib.Core.Path.{◌≡◌, refl, sym, ap, ◌∙◌}
use mathlib.Core.Bool.{Bool, true, false, true≢false, not, ◌&&◌}
use mathlib.Core.Logic.{◌⊎◌, inl, inr}
use mathlib.Core.List.{List, ◌++◌}
use Prim.Native.Nat.{ℕ, ◌+◌, ◌-◌, ◌*◌, ◌/◌, ◌^◌, ◌≤◌, ◌<◌}
use native.Mathlib.Omega.{arith}
use borrow.Author.Tests.{ltb-true, ltb-false, leb-true, leb-false, le-leb, lt-leb}
use lib.Dec.{leb, ltb}
use lib.ListN.{length, length-append}
use Rattle.octets.specs.Plain.Runs.{part, Lies}
use Rattle.octets.specs.Working.Choice.{pick}
use Rattle.octets.proofs.PartLaws.{part_length}
use Rattle.parse_tree.specs.Plain.Tree.{Text, Stage}
use Rattle.parse_tree.specs.Plain.Texts.{with_new}
use Rattle.parse_tree.specs.Plain.References.{texts_of_each, item_texts, stage_of}
use Rattle.parse_tree.specs.Plain.WriteTape.{bytes_of_each, tape_of}
use Rattle.parse_tree.specs.Working.Encode.{atom_bytes, item_bytes, stage_bytes}
use Rattle.parse_tree.specs.Working.Within.{Each}
use Rattle.parse_tree.specs.Working.Refusals.{refusal_at}
use Rattle.parse_tree.specs.declared.refusal.Refusal.{Refusal}
use Rattle.parse_tree.proofs.WriteTapeIs.{tape_is}
use Rattle.texts.specs.Atoms.{some_long}
use Rattle.texts.specs.declared.Map.{Map}
use Rattle.texts.specs.Table.{texts}
use Rattle.passes.specs.Outcome.{Tree}
use Rattle.passes.specs.Levels.{levelled, levels}
use Rattle.passes.specs.Sizes.{each, stage_fits}
use Rattle.passes.specs.Stages.{level_stage}
use Rattle.passes.specs.Calls.{sizes, written}
use Rattle.precedence.specs.Names.{Naming, named_texts}
use Rattle.precedence.proofs.NamesMean.{named-texts, named-split}
use Rattle.levels.specs.declared.Room.{Room}
use Rattle.levels.specs.declared.Written.{Written}
use Rattle.levels.specs.Fresh.{new_texts, fresh_of}
use Rattle.levels.proofs.Fits.{levelled-fits}
use Rattle.output.specs.Plain.Answers.{answer_of}
use Rattle.std.specs.Prelude.{Option, Some, None, Result, Ok, Err, IfSome}
use Rattle.std.specs.Result.{result_ok}
use Rattle.output.specs.Working.Judging.{room_of, sized_levels}
use Rattle.output.specs.Working.Handing.{Staged}
use Rattle.stages.specs.Levelling.{levelled_of, SomeLevels, SomeFitting}
use Rattle.stages.proofs.LevellingMeanTexts.{bytes_both, all_short, described_length, described_bytes}

-- the bytes of new names as they were counted, and whether one was too long
abbrev bytes_in : Option ℕ → ℕ
bytes_in None = 0
bytes_in (Some b) = b

abbrev long_in : Option ℕ → Bool
long_in None = true
long_in (Some b) = false

module _ (s : List ℕ) (cap : ℕ) (m : Map) (at : ℕ) (room : Room) (v : Written) (w : List ℕ) (L : SomeLevels s cap m at room v w) where
  abbrev news : List Text
  news = new_texts s w m v.count

  abbrev us : List Text
  us = named_texts s w m v.count

  abbrev tree : Tree
  tree = levelled L.tree

  -- the levelled stage
  abbrev pub stage_for : Stage
  stage_for = record { atoms = us; items = tree }

  least : m.count ≤ v.count
  least = L.wrote.least

  pub tape_texts : texts s w m ≡ L.tape.atoms
  tape_texts = L.wrote.same ∙ L.texts-are

  -- ---- its atoms are the tape's, then the names described
  pub split : us ≡ L.tape.atoms ++ news
  split =
      let z : m.count + (v.count - m.count) ≡ v.count = omega (arith, least) in
      ap (named_texts s w m) (sym z) ∙ named-split s w m (v.count - m.count) ∙ ap (λ (ts : List Text). ts ++ news) tape_texts

  pub many_texts : length us ≡ v.count
  many_texts = omega (arith, ap length split, length-append L.tape.atoms news, described_length s w m (v.count - m.count), L.many, least)

  pub stage_is : stage_of L.tape.atoms tree ≡ stage_for
  unfolding stage_of
  stage_is =
      let z : us ≡ with_new L.tape.atoms (texts_of_each item_texts tree) = L.wrote.named ∙ ap (λ (ts : List Text). with_new ts (texts_of_each item_texts tree)) (named-texts s L.before m ∙ L.texts-are) in
      ap (λ (ts : List Text). record { atoms = ts; items = tree }) (sym z)

  pub levelled-said : levelled_of s cap ≡ sizes 2 cap stage_for
  unfolding levelled_of level_stage levels
  levelled-said = rw (L.admitted, L.fine) (ap (sizes 2 cap) stage_is)

  -- ---- 20
  pub fits_is : stage_fits 2 stage_for ≡ (leb v.count 65536 && (not (some_long news) && true))
  unfolding stage_fits
  fits_is =
      let x : each (λ (t : Text). ltb (length t) 65536) us ≡ not (some_long news) = ap (λ (ts : List Text). each (λ (t : Text). ltb (length t) 65536) ts) split ∙ all_short L.tape.atoms news L.within.short in
      rw (many_texts, x, levelled-fits true 2 L.tape.atoms L.tree L.tree_within) refl

  -- ---- its bytes
  abbrev B : ℕ
  B = length (bytes_of_each (item_bytes 2 us) tree)

  abbrev N : ℕ
  N = length (bytes_of_each (atom_bytes 2) news)

  pub atoms_bytes : bytes_of_each (atom_bytes 2) us ≡ part 0 at s ++ bytes_of_each (atom_bytes 2) news
  atoms_bytes = ap (bytes_of_each (atom_bytes 2)) split ∙ bytes_both (atom_bytes 2) L.tape.atoms news ∙ ap (λ (x : List ℕ). x ++ bytes_of_each (atom_bytes 2) news) (sym L.atoms)

  pub size_is : length (stage_bytes 2 stage_for) ≡ at + N + B
  unfolding stage_bytes
  size_is =
      omega (arith, length-append (bytes_of_each (atom_bytes 2) us) (bytes_of_each (item_bytes 2 us) tree), ap length atoms_bytes, length-append (part 0 at s) (bytes_of_each (atom_bytes 2) news), part_length 0 at s L.inside, L.inside)

  -- ---- the room
  pub at-is : room.at ≡ 8 * length s + 6 * cap - 2 * (cap / 9)
  unfolding room_of
  at-is = ap (λ (u : Room). u.at) L.room_is

  pub lim_is : room.lim ≡ room.at + cap
  unfolding room_of
  lim_is = ap (λ (u : Room). u.lim) L.room_is ∙ ap (λ (n : ℕ). n + cap) (sym at-is)

  -- the items stand there, or the cursor says that they don't fit
  pub placed : ((B ≤ cap) × Lies w room.at (bytes_of_each (item_bytes 2 us) tree) v.to) ⊎ ((cap < B) × (v.to ≡ room.lim + 1))
  placed = go (leb B cap) refl
    where
      go : (b : Bool) → leb B cap ≡ b → ((B ≤ cap) × Lies w room.at (bytes_of_each (item_bytes 2 us) tree) v.to) ⊎ ((cap < B) × (v.to ≡ room.lim + 1))
      go true e = let z = leb-true B cap e in inl (z, L.wrote.whole (omega (arith, lim_is)))
      go false e = let z = leb-false B cap e in inr (z, L.wrote.over (omega (arith, lim_is)))

  pub to_from : room.at ≤ v.to
  to_from = elim placed [ inl x ↦ omega (arith, x.1.end) | inr x ↦ omega (arith, x.1, lim_is) ]

  to_upto : v.to ≤ room.lim + 1
  to_upto = elim placed [ inl x ↦ omega (arith, x.1.end, x.0, lim_is) | inr x ↦ omega (arith, x.1) ]

  -- theorem: names are described
  pub levels-naming : Naming s w m v.count
  levels-naming = L.wrote.names.naming

  -- ---- what `judge_levels` asks: f is what `count_bytes` answered, without the bytes where a name is too long
  module _ (f : Option ℕ) (c : f ≡ result_ok (fresh_of (new_texts s w m v.count))) where
    counted : (long_in f ≡ some_long news) × (long_in f ≡ false → bytes_in f ≡ N)
    unfolding fresh_of pick
    counted = rw c (go (some_long news))
      where
        go : (b : Bool) → (long_in (result_ok (pick b (Err N) (Ok N))) ≡ b) × (long_in (result_ok (pick b (Err N) (Ok N))) ≡ false → bytes_in (result_ok (pick b (Err N) (Ok N))) ≡ N)
        go true = (refl, λ h. absurd (true≢false h))
        go false = (refl, λ _. refl)

    long_is : long_in f ≡ some_long news
    long_is = counted.0

    bytes_is : long_in f ≡ false → bytes_in f ≡ N
    bytes_is = counted.1

    pub levels-from : room.at ≤ v.to
    levels-from = to_from

    -- theorem: the sum doesn't wrap
    pub levels-sum : length w * 1 < 2 ^ 63 → IfSome f (λ bytes. at + bytes + v.to < 18446744073709551616)
    levels-sum h = go f bytes_is
      where
        sum : at + N + v.to < 18446744073709551616
        sum =
            let short : Each (λ (t : Text). length t < 65536) (texts s w m) = rw tape_texts L.within.short in
            omega (arith, L.enough, L.inside, L.fits, described_bytes s w m short (v.count - m.count), levels-naming.few, to_upto, lim_is, at-is)

        go : (g : Option ℕ) → (long_in g ≡ false → bytes_in g ≡ N) → IfSome g (λ bytes. at + bytes + v.to < 18446744073709551616)
        go None k = tt
        go (Some b) k = let z : b ≡ N = k refl in rw z sum

    -- ---- and what it answers: y
    module _ (y : Result ℕ Refusal) (j : y ≡ sized_levels v room at f cap) where
      -- by what is asked: a name too long, items that don't fit, atoms too many, a tape too long
      Judges : Bool → Bool → Bool → Bool → Type 0
      Judges long over many big =
          y
          ≡ pick long (Err (refusal_at 20 0))
          (pick many (Err (refusal_at 20 0)) (pick over (Err (refusal_at 21 0)) (pick big (Err (refusal_at 21 0)) (Ok (at + bytes_in f + (v.to - room.at))))))

      judges : Judges (long_in f) (ltb room.lim v.to) (ltb 65536 v.count) (ltb cap (at + bytes_in f + (v.to - room.at)))
      unfolding Judges sized_levels pick
      judges = go f j
        where
          go : (g : Option ℕ) → y ≡ sized_levels v room at g cap
              → y
              ≡ pick (long_in g) (Err (refusal_at 20 0))
              (pick (ltb 65536 v.count) (Err (refusal_at 20 0))
              (pick (ltb room.lim v.to) (Err (refusal_at 21 0)) (pick (ltb cap (at + bytes_in g + (v.to - room.at))) (Err (refusal_at 21 0)) (Ok (at + bytes_in g + (v.to - room.at))))))
          go None k = k
          go (Some b) k = k

      yes_no : (n : ℕ) (why : Refusal) → Ok n ≡ Err why → ⊥
      yes_no n why z = let q : ◌≡◌ {A = ℕ} 0 1 = cc in omega arith

      -- the answer is a refusal, and the stage's
      refused_20 : (o : List ℕ) (why : Refusal) → y ≡ Err why → y ≡ Err (refusal_at 20 0) → stage_fits 2 stage_for ≡ false → Staged (levelled_of s cap) o (Err why) o
      unfolding sizes answer_of written refusal_at
      refused_20 o why z k e = let u : why ≡ refusal_at 20 0 = let q : Err why ≡ Err (refusal_at 20 0) = sym z ∙ k in cc in rw (levelled-said, e) (record { answered = rw u refl; tree = refl })

      refused_21 : (o : List ℕ) (why : Refusal) → y ≡ Err why → y ≡ Err (refusal_at 21 0) → stage_fits 2 stage_for ≡ true → cap < at + N + B → Staged (levelled_of s cap) o (Err why) o
      unfolding sizes answer_of written refusal_at
      refused_21 o why z k e h =
          let u : why ≡ refusal_at 21 0 = let q : Err why ≡ Err (refusal_at 21 0) = sym z ∙ k in cc in
          let l : leb (length (tape_of 2 stage_for)) cap ≡ false = rw (tape_is 2 stage_for) (lt-leb (length (stage_bytes 2 stage_for)) cap (omega (arith, size_is))) in
          rw (levelled-said, e, l) (record { answered = rw u refl; tree = refl })

      long_refused : long_in f ≡ true → stage_fits 2 stage_for ≡ false
      long_refused e = rw (fits_is, sym long_is ∙ e) (go (leb v.count 65536))
        where
          go : (b : Bool) → (b && (not true && true)) ≡ false
          go true = refl
          go false = refl

      many_refused : 65536 < v.count → stage_fits 2 stage_for ≡ false
      many_refused h = rw (fits_is, lt-leb v.count 65536 h) refl

      few_admitted : long_in f ≡ false → v.count ≤ 65536 → stage_fits 2 stage_for ≡ true
      few_admitted e h = rw (fits_is, sym long_is ∙ e, le-leb v.count 65536 h) refl

      -- items that fit end where the cursor is
      over_bytes : room.lim < v.to → cap < B
      over_bytes h = elim placed [ inl x ↦ absurd (omega (arith, x.1.end, x.0, lim_is)) | inr x ↦ x.0 ]

      whole_bytes : v.to ≤ room.lim → Lies w room.at (bytes_of_each (item_bytes 2 us) tree) v.to
      whole_bytes h = elim placed [ inl x ↦ x.1 | inr x ↦ absurd (omega (arith, x.1)) ]

      -- theorem: a refusal is the stage's
      pub levels-no : (o : List ℕ) (why : Refusal) → y ≡ Err why → Staged (levelled_of s cap) o (Err why) o
      unfolding Judges pick
      levels-no o why z = go (long_in f) refl (ltb room.lim v.to) refl (ltb 65536 v.count) refl (ltb cap (at + bytes_in f + (v.to - room.at))) refl judges
        where
          go : (long : Bool) → long_in f ≡ long → (over : Bool) → ltb room.lim v.to ≡ over → (many : Bool) → ltb 65536 v.count ≡ many → (big : Bool) → ltb cap (at + bytes_in f + (v.to - room.at)) ≡ big
              → Judges long over many big → Staged (levelled_of s cap) o (Err why) o
          go true p over q many r big t k = refused_20 o why z k (long_refused p)
          go false p true q true r big t k = refused_20 o why z k (many_refused (ltb-true 65536 v.count r))
          go false p true q false r big t k = refused_21 o why z k (few_admitted p (ltb-false 65536 v.count r)) (let h = over_bytes (ltb-true room.lim v.to q) in omega arith)
          go false p false q true r big t k = refused_20 o why z k (many_refused (ltb-true 65536 v.count r))
          go false p false q false r true t k =
              let h = whole_bytes (ltb-false room.lim v.to q) in
              refused_21 o why z k (few_admitted p (ltb-false 65536 v.count r)) (omega (arith, ltb-true cap (at + bytes_in f + (v.to - room.at)) t, bytes_is p, h.end))
          go false p false q false r false t k = absurd (yes_no (at + bytes_in f + (v.to - room.at)) why (sym k ∙ z))

      module _ (n : ℕ) (z : y ≡ Ok n) where
        -- a yes says that all fits
        record Fitting : Type 0 where
          short : long_in f ≡ false
          upto : v.to ≤ room.lim
          few : v.count ≤ 65536
          fits : at + bytes_in f + (v.to - room.at) ≤ cap
          size : n ≡ at + bytes_in f + (v.to - room.at)

        fitting : Fitting
        unfolding Judges pick
        fitting = go (long_in f) refl (ltb room.lim v.to) refl (ltb 65536 v.count) refl (ltb cap (at + bytes_in f + (v.to - room.at))) refl judges
          where
            go : (long : Bool) → long_in f ≡ long → (over : Bool) → ltb room.lim v.to ≡ over → (many : Bool) → ltb 65536 v.count ≡ many → (big : Bool) → ltb cap (at + bytes_in f + (v.to - room.at)) ≡ big
                → Judges long over many big → Fitting
            go true p over q many r big t k = absurd (yes_no n (refusal_at 20 0) (sym z ∙ k))
            go false p true q true r big t k = absurd (yes_no n (refusal_at 20 0) (sym z ∙ k))
            go false p true q false r big t k = absurd (yes_no n (refusal_at 21 0) (sym z ∙ k))
            go false p false q true r big t k = absurd (yes_no n (refusal_at 20 0) (sym z ∙ k))
            go false p false q false r true t k = absurd (yes_no n (refusal_at 21 0) (sym z ∙ k))
            go false p false q false r false t k = record {
              short = p;
              upto = ltb-false room.lim v.to q;
              few = ltb-false 65536 v.count r;
              fits = ltb-false cap (at + bytes_in f + (v.to - room.at)) t;
              size = let c : Ok n ≡ Ok (at + bytes_in f + (v.to - room.at)) = sym z ∙ k in cc;
            }

        -- theorem: the stage is admitted
        pub levels-fitting : SomeFitting s cap m at room v w
        levels-fitting = record { levels = L; short = sym long_is ∙ fitting.short; upto = fitting.upto; few = fitting.few; fits = omega (arith, fitting.fits, bytes_is fitting.short) }

        -- theorem: and its size is told
        pub levels-size : n ≡ at + length (bytes_of_each (atom_bytes 2) (new_texts s w m v.count)) + (v.to - room.at)
        levels-size = omega (arith, fitting.size, bytes_is fitting.short)
