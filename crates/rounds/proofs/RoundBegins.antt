-- What holds of the trees where a round begins, and that a round carries it to the next: texts, spans, soundness, calls, bounds, and what new texts cost. Assumes nothing.
use mathlib.Core.Path.{◌≡◌, sym, subst}
use mathlib.Core.Bool.{true, false}
use mathlib.Core.List.{List, [], ◌++◌}
use Prim.Native.Nat.{ℕ, ◌≤◌}
use native.Mathlib.Omega.{arith}
use lib.ListN.{length}
use Rattle.parse_tree.specs.Plain.Tree.{Text, Item, Stage}
use Rattle.parse_tree.specs.Plain.Texts.{distinct, has}
use Rattle.parse_tree.specs.Plain.References.{texts_of_each, item_texts, stage_of}
use Rattle.parse_tree.specs.Working.Within.{Each, SpanWithin, ItemWithin, StageWithin}
use Rattle.parse_tree.proofs.ReadingLaws.{each_append, each_all}
use Rattle.passes.specs.Outcome.{Tree, yes}
use Rattle.passes.specs.Macros.{MacroExpander, replace_items, drain, without_macros}
use Rattle.passes.specs.Resolve.{resolve}
use Rattle.passes.specs.Stages.{stage}
use Rattle.passes.specs.Calls.{sizes}
use Rattle.passes.proofs.ResolveWithin.{resolve-alike}
use Rattle.meaning.specs.Spans.{ItemSpans}
use Rattle.meaning.proofs.Calls.RoundSpans.{replace_items-spans, drain-spans}
use Rattle.meaning.proofs.Calls.Atoms.{with_new_distinct, stage_stocked}
use Rattle.meaning.proofs.Calls.Output.{item_spans, stage_within}
use Rattle.laws.specs.Keys.{ItemSound, Piled}
use Rattle.laws.proofs.Keys.{replace_items_sound, drain-sound}
use Rattle.replacing.specs.Trees.{expanded_items}
use Rattle.replacing.proofs.TreesMean.{replace_items_is}
use Rattle.rounds.specs.Begins.{piled_of, BeginsRound}
use Rattle.rounds.specs.Calls.{ItemCalls, PendingCalls}
use Rattle.rounds.specs.Paid.{TreeKnown}
use Rattle.rounds.proofs.CallsMean.{pile_calls, drain-calls}
use Rattle.rounds.proofs.PaidRounds.{apart, after-round, round_known}
use Rattle.rounds.proofs.PaidKeeps.{texts-both, round_keeps, keys_none, without_each}
use Rattle.rounds.proofs.PaidStarts.{paid_start}
use Rattle.rounds.proofs.KeptMeans.{items_sound}
use Rattle.rounds.proofs.ResolvedCalls.{resolved-calls}

-- ---- one round, whose appending stage is admitted
module _ (w cap : ℕ) (G : Tree) (old fresh new : List Item) (K ts past us : List Text) (owed : ℕ) (h : BeginsRound w G old fresh K ts past owed) (some : 1 ≤ length (piled_of fresh K)) (e : drain G (piled_of fresh K) ≡ yes new)
    (a : stage (sizes w cap) (stage_of ts (old ++ (replace_items fresh (record { keys = K; pile = [] })).0)).atoms (old ++ (replace_items fresh (record { keys = K; pile = [] })).0 ++ new)
    ≡ yes (stage_of (stage_of ts (old ++ (replace_items fresh (record { keys = K; pile = [] })).0)).atoms (old ++ (replace_items fresh (record { keys = K; pile = [] })).0 ++ new)))
    (u : after-round G old fresh new K ts ≡ ts ++ us) where
  abbrev σ : MacroExpander
  σ = record { keys = K; pile = [] }

  abbrev q : List Item × MacroExpander
  q = replace_items fresh σ

  replaced_apart : distinct (stage_of ts (old ++ q.0)).atoms ≡ true
  unfolding stage_of
  replaced_apart = with_new_distinct ts (texts_of_each item_texts (old ++ q.0)) h.apart

  old_spans_next : Each (ItemSpans SpanWithin) (old ++ q.0)
  old_spans_next = each_append (ItemSpans SpanWithin) old q.0 h.old_spans (replace_items-spans SpanWithin fresh σ h.fresh_spans tt).0

  new_spans : Each (ItemSpans SpanWithin) new
  new_spans = drain-spans SpanWithin G h.macros-spans q.1.pile new (replace_items-spans SpanWithin fresh σ h.fresh_spans tt).1 e

  piled_next : Piled q.1
  piled_next = (replace_items_sound fresh σ h.fresh_sound h.piled).1

  pile_call : Each (PendingCalls G) q.1.pile
  pile_call = subst (λ (x : List Item × MacroExpander). Each (PendingCalls G) x.1.pile) (sym (replace_items_is fresh σ)) (pile_calls G (expanded_items fresh) σ tt)

  within_next : Each (ItemWithin false w (after-round G old fresh new K ts)) (old ++ q.0 ++ new)
  unfolding stage_of
  within_next =
      let g = stage_of (stage_of ts (old ++ q.0)).atoms (old ++ q.0 ++ new) in
      (stage_within w g (stage_stocked w cap (stage_of ts (old ++ q.0)).atoms (old ++ q.0 ++ new) g replaced_apart a) (each_append (ItemSpans SpanWithin) (old ++ q.0) new old_spans_next new_spans)).items

  -- theorem: the next round begins with the same
  pub round_carries : BeginsRound w G (old ++ q.0) new q.1.keys (after-round G old fresh new K ts) (past ++ us) owed
  round_carries =
      let kept = round_keeps owed G old fresh new K ts past us h.macros-known h.old_known h.fresh_known h.keys_known e u (h.paid some) in
      let known = round_known G old fresh new K ts h.macros-known h.old_known h.fresh_known h.keys_known e in
      let g = stage_of (stage_of ts (old ++ q.0)).atoms (old ++ q.0 ++ new) in
      record {
        apart = (stage_stocked w cap (stage_of ts (old ++ q.0)).atoms (old ++ q.0 ++ new) g replaced_apart a).apart;
        macros-known = known.0;
        old_known = known.1;
        fresh_known = known.2;
        keys_known = known.3;
        macros-spans = h.macros-spans;
        old_spans = old_spans_next;
        fresh_spans = new_spans;
        macros-sound = h.macros-sound;
        fresh_sound = drain-sound G q.1.pile new h.macros-sound piled_next.pile e;
        piled = record { keys = piled_next.keys; pile = tt };
        macros-call = h.macros-call;
        fresh_call = drain-calls G q.1.pile new h.macros-call pile_call e;
        within = within_next;
        records_paid = omega (arith, kept.0);
        paid = λ z. kept;
        owed_few = omega (arith, h.owed_few, texts-both past us);
      }

-- ---- the first round
-- theorem: ts are the texts of a tree A, whose items are within bounds
pub first_begins : (w : ℕ) (A : Tree) (ts : List Text) → distinct ts ≡ true → TreeKnown ts A → Each (ItemSpans SpanWithin) A → Each ItemSound A → Each (ItemCalls A) A → Each (ItemWithin false w ts) A
    → BeginsRound w A [] (without_macros A) [] ts [] 0
first_begins w A ts d k p s c i =
    record {
      apart = d;
      macros-known = k;
      old_known = tt;
      fresh_known = without_each (λ x. Each (λ (t : Text). has t ts ≡ true) (item_texts x)) A k;
      keys_known = keys_none ts;
      macros-spans = p;
      old_spans = tt;
      fresh_spans = without_each (ItemSpans SpanWithin) A p;
      macros-sound = s;
      fresh_sound = without_each ItemSound A s;
      piled = record { keys = tt; pile = tt };
      macros-call = c;
      fresh_call = without_each (ItemCalls A) A c;
      within = without_each (ItemWithin false w ts) A i;
      records_paid = omega arith;
      paid = λ z. paid_start 0 [] (without_macros A) [] z;
      owed_few = omega arith;
    }

-- theorem: the call for macros alone: u was read, R is what resolving gives, and its stage is admitted
pub macros-begin : (w cap : ℕ) (u : Stage) (R : Tree) → StageWithin true w u → resolve u.items ≡ yes R → stage (sizes w cap) u.atoms R ≡ yes (stage_of u.atoms R)
    → BeginsRound w R [] (without_macros R) [] (stage_of u.atoms R).atoms [] 0
unfolding stage_of
macros-begin w cap u R h e a =
    let within = (resolve-alike true w u.atoms u.items R e).within h.items in
    let spans = each_all (ItemWithin true w u.atoms) (ItemSpans SpanWithin) (item_spans true w u.atoms) R within in
    let stocked = stage_stocked w cap u.atoms R (stage_of u.atoms R) h.apart a in
    first_begins w R (stage_of u.atoms R).atoms stocked.apart (apart (λ (t : Text). has t (stage_of u.atoms R).atoms ≡ true) R stocked.there) spans (items_sound w u.atoms R within)
    (resolved-calls u.items R e) (stage_within w (stage_of u.atoms R) stocked spans).items
