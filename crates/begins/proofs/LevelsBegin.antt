-- What the first round begins with behind levels: the new texts are names of levels, whose items pay for them; those of macros' levels are owed. Assumes nothing.
use mathlib.Core.Path.{◌≡◌, ap}
use mathlib.Core.Bool.{true, false}
use mathlib.Core.Logic.{inl, inr}
use mathlib.Core.List.{List, [], ◌++◌}
use Prim.Native.Nat.{ℕ, zero, suc, ◌+◌, ◌*◌, ◌≤◌}
use native.Mathlib.Omega.{arith}
use lib.ListN.{length, length-append}
use Rattle.parse_tree.specs.Plain.Tree.{Text, Item, Stage}
use Rattle.parse_tree.specs.Plain.Texts.{has, with_new}
use Rattle.parse_tree.specs.Plain.References.{texts_of_each, item_texts, stage_of}
use Rattle.parse_tree.specs.Plain.WriteTape.{bytes_of_each}
use Rattle.parse_tree.specs.Working.Encode.{atom_bytes, item_bytes, stage_bytes}
use Rattle.parse_tree.specs.Working.Within.{Each, SpanWithin, ItemWithin, StageWithin}
use Rattle.parse_tree.proofs.AmongLaws.{has-before, has-behind}
use Rattle.parse_tree.proofs.ReadingLaws.{each_all}
use Rattle.passes.specs.Outcome.{Tree, yes}
use Rattle.passes.specs.Levels.{levelled, check_levels}
use Rattle.passes.specs.Macros.{without_macros}
use Rattle.passes.specs.Resolve.{resolve}
use Rattle.passes.specs.Stages.{stage}
use Rattle.passes.specs.Calls.{sizes}
use Rattle.meaning.specs.Spans.{ItemSpans}
use Rattle.laws.specs.Counts.{heads}
use Rattle.laws.specs.Keys.{ItemSound}
use Rattle.laws.proofs.Counts.{expanded_fit}
use Rattle.rounds.specs.Begins.{piled_of, BeginsRound}
use Rattle.rounds.specs.Calls.{ItemCalls}
use Rattle.rounds.specs.Paid.{weigh, Known, Paid}
use Rattle.rounds.proofs.PaidRounds.{together}
use Rattle.rounds.proofs.PaidKeeps.{texts-both, keys_none, without_each}
use Rattle.rounds.proofs.PaidStarts.{pile_heads}
use Rattle.rounds.proofs.ResolvedCalls.{resolved-calls}
use Rattle.rounds.proofs.RoundStages.{fine_parts}
use Rattle.begins.specs.Lowers.{plain_lowers, macro_lowers, owes}
use Rattle.begins.proofs.LevelsTexts.{levelled-texts}
use Rattle.begins.proofs.LevelsHeads.{plain-paid, all_paid, macro_long}
use Rattle.begins.proofs.LevelsWeights.{themselves, owed_five, owed_names, names_24, names_20}
use Rattle.begins.proofs.ResolvedAgain.{resolve-heads}
use Rattle.begins.proofs.LevelsWithin.{named, texts-known, stocked, again_within, again_spans, again_sound, again_known}

-- u was read, R is what resolving gives, its levels' stage is admitted and brings us, L is what resolving them gives
module _ (cap : ℕ) (u : Stage) (R L : Tree) (us : List Text) (h : StageWithin true 2 u) (r : resolve u.items ≡ yes R) (c : check_levels R ≡ yes tt)
    (a : stage (sizes 2 cap) u.atoms (levelled R) ≡ yes (stage_of u.atoms (levelled R))) (e : resolve (levelled R) ≡ yes L) (n : (stage_of u.atoms (levelled R)).atoms ≡ u.atoms ++ us) where
  abbrev ts : List Text
  ts = (stage_of u.atoms (levelled R)).atoms

  abbrev ys : List Text
  ys = texts_of_each item_texts (levelled R)

  -- names of lower levels, of nonterminals without arguments and of macros
  abbrev N : List Text
  N = plain_lowers R

  abbrev M : List Text
  M = macro_lowers R

  abbrev P : Text → Type 0
  P = Known u.atoms (N ++ M)

  known : Each P ys
  known =
      let old = each_all (λ i. Each (λ (t : Text). has t u.atoms ≡ true) (item_texts i)) (λ i. Each P (item_texts i)) (λ i k. each_all (λ (t : Text). has t u.atoms ≡ true) P (λ t j. inl j) (item_texts i) k) R (texts-known u R h r) in
      let plain = each_all (λ (t : Text). has t N ≡ true) P (λ t j. inr (has-before t N M j)) N (themselves N) in
      let macros = each_all (λ (t : Text). has t M ≡ true) P (λ t j. inr (has-behind t N M j)) M (themselves M) in
      together P (levelled R) (levelled-texts P R old plain macros)

  new : with_new u.atoms ys ≡ u.atoms ++ us
  unfolding stage_of
  new = n

  long : Each (λ (t : Text). 2 ≤ length t) M
  long = macro_long R (named u R h r)

  -- names of macros' levels: their items are left out
  abbrev owed : ℕ
  owed = weigh (owes M) us

  abbrev b : ℕ
  b = length (bytes_of_each (atom_bytes 2) us)

  abbrev fresh : List Item
  fresh = without_macros L

  few : 31 * length N ≤ heads fresh
  few = omega (arith, (plain-paid R).0, resolve-heads (levelled R) L e)

  records : 24 * length us ≤ heads fresh + 4 * b + 4 * owed
  records = omega (arith, names_24 M long u.atoms ys N us known new, few)

  pays : 1 ≤ length (piled_of fresh []) → Paid owed us fresh
  pays z = (go (length N) (names_24 M long u.atoms ys N us known new) (plain-paid R).1, omega (arith, names_20 M long u.atoms ys N us known new, few))
    where
      go : (k : ℕ) → 24 * length us ≤ 12 * k + 4 * b + 4 * owed → (1 ≤ k → 31 * k + 31 ≤ heads (without_macros (levelled R))) → 24 * length us + 31 ≤ heads fresh + 4 * b + 4 * owed
      go zero x y = omega (arith, x, pile_heads fresh [] z)
      go (suc k) x y = omega (arith, x, y (omega arith), resolve-heads (levelled R) L e)

  begins : BeginsRound 2 L [] fresh [] ts us owed
  begins =
      let spans = again_spans u R h r c cap a L e in
      let sound = again_sound u R h r c cap a L e in
      let there = again_known u R h r c cap a L e in
      let calls = resolved-calls (levelled R) L e in
      record {
        apart = (stocked u R h r c cap a).apart;
        macros-known = there;
        old_known = tt;
        fresh_known = without_each (λ x. Each (λ (t : Text). has t ts ≡ true) (item_texts x)) L there;
        keys_known = keys_none ts;
        macros-spans = spans;
        old_spans = tt;
        fresh_spans = without_each (ItemSpans SpanWithin) L spans;
        macros-sound = sound;
        fresh_sound = without_each ItemSound L sound;
        piled = record { keys = tt; pile = tt };
        macros-call = calls;
        fresh_call = without_each (ItemCalls L) L calls;
        within = without_each (ItemWithin false 2 ts) L (again_within u R h r c cap a L e);
        records_paid = records;
        paid = pays;
        owed_few = owed_five M long us;
      }

  -- each has an item of 31 bytes, and five bytes of its own
  owed_fits : 36 * owed ≤ cap
  unfolding stage_bytes stage_of
  owed_fits =
      let x = bytes_of_each (atom_bytes 2) ts in
      let y = bytes_of_each (item_bytes 2 ts) (levelled R) in
      let size : length x + length y ≤ cap = omega (arith, (fine_parts cap (stage_of u.atoms (levelled R)) a).1, length-append x y) in
      let own : b ≤ length x = omega (arith, ap (λ (l : List Text). length (bytes_of_each (atom_bytes 2) l)) n, texts-both u.atoms us) in
      omega (arith, size, own, owed_five M long us, owed_names M long u.atoms ys N us known new, all_paid R, expanded_fit ts (levelled R))

-- theorem: the call for all three passes, where rounds begin
pub levels-begin : (cap : ℕ) (u : Stage) (R L' : Tree) (us : List Text) → StageWithin true 2 u → resolve u.items ≡ yes R → check_levels R ≡ yes tt
    → stage (sizes 2 cap) u.atoms (levelled R) ≡ yes (stage_of u.atoms (levelled R)) → resolve (levelled R) ≡ yes L' → (stage_of u.atoms (levelled R)).atoms ≡ u.atoms ++ us
    → (owed : ℕ) × BeginsRound 2 L' [] (without_macros L') [] (stage_of u.atoms (levelled R)).atoms us owed × (36 * owed ≤ cap)
levels-begin cap u R L' us h r c a e n = (owed cap u R L' us h r c a e n, begins cap u R L' us h r c a e n, owed_fits cap u R L' us h r c a e n)
