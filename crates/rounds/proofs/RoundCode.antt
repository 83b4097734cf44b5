-- Laws for the steps of a round in code: what each call asks, and what they come to. Assumes nothing.
use mathlib.Core.Path.{◌≡◌, subst}
use mathlib.Core.List.{List}
use Prim.Native.Nat.{ℕ, ◌+◌, ◌-◌, ◌≤◌, ◌<◌}
use native.Mathlib.Omega.{arith}
use borrow.Author.Rules.{rules}
use mir.Syntax.{w8, w64}
use mir.Val as Bound
use lib.ListN.{length, get_or}
use Rattle.octets.specs.Plain.Numbers.{Bytes}
use Rattle.octets.specs.Plain.Runs.{part}
use Rattle.octets.specs.Working.Stores.{store}
use Rattle.resolve.specs.declared.Grammar.{Grammar}
use Rattle.expander.specs.declared.Ground.{Ground}
use Rattle.expander.specs.declared.stage.Replaced.{Replaced}
use Rattle.expander.specs.Ground.{stage_in}
use Rattle.expander.specs.Stage.{SomeStage, Stages}
use Rattle.appending.specs.declared.Appended.{Appended}
use Rattle.std.specs.Prelude.{Result}
use Rattle.parse_tree.specs.declared.refusal.Refusal.{Refusal}
use Rattle.macro_expand.specs.Drain.{SomePile, Drains}
use Rattle.settling.specs.declared.settle.Settled.{Settled}
use Rattle.settling.specs.Settle.{SomePushed, MarkedPushed, Settling, Settles}
use Rattle.settling.proofs.PushedMean.{marked_settling}
use Rattle.rounds.specs.declared.Expander.{Expander}
use Rattle.rounds.specs.declared.Room.{Room}
use Rattle.rounds.specs.declared.State.{State}
use Rattle.rounds.specs.declared.round.Half.{Half}
use Rattle.rounds.specs.Steps.{numbers_pending, numbers_appended}
use Rattle.rounds.specs.Grounds.{Groundable, Grounds}
use Rattle.rounds.specs.Start.{Cleared, at_start}
use Rattle.rounds.specs.Standing.{RoundTrees, RoundStands}
use Rattle.rounds.specs.Round.{SomeRound, Halfway, SomeHalf, SomePending, limit_of, DrainsPile, SomeAppended, SomeDrained, SettlesTexts, SettlesRound}
use Rattle.rounds.proofs.ReadyMeans.{stage_bytes_lem}
use Rattle.rounds.proofs.RoundPlaces as places
use Rattle.rounds.proofs.RoundGround as grounds
use Rattle.rounds.proofs.RoundHalf as halves
use Rattle.rounds.proofs.Tally as tally
use Rattle.rounds.proofs.RoundPile as piles
use Rattle.rounds.proofs.RoundAppended as appended
use Rattle.rounds.proofs.RoundBytes as bytes
use Rattle.rounds.proofs.RoundNext as nexts

-- ---- replace
module _ (s w : List ℕ) (room : Room) (t : Grammar) (z : State) (K : SomeRound s w room t z) where
  pub replace_ground : Groundable s w z.m t.width.bytes z.from z.end room.x
  replace_ground = places.can_ground s w room t z K.trees K.standing

  module _ (g : Ground) (w1 : List ℕ) (L : Grounds s w z.m t.width.bytes z.from z.end room.x g w1) (b : (j : ℕ) → Bound.Fits w8 (get_or w1 j 0)) where
    bytes_in_lem : Bytes (stage_in w1 g)
    bytes_in_lem = stage_bytes_lem s w1 g L.ground (λ j. (b j).fits)

    pub replace_some : SomeStage s w1 g z.done
    replace_some = grounds.can_replace s w room t z K.trees K.standing g w1 L bytes_in_lem

    pub replace_done : (r : Replaced) (w2 : List ℕ) → Stages s w1 g z.done r w2 → (e : Expander) → e ≡ numbers_pending z.expander r.pile → Halfway s w room t z (record { g = g; r = r; expander = e }) w2
    replace_done r w2 k e i = record { middle = w1; grounds = L; bytes = bytes_in_lem; stages = k; numbers = i }

pub ruleset replacing = (rules, replace_ground, replace_some, replace_done)

-- ---- expand_pile
module _ (s w : List ℕ) (room : Room) (t : Grammar) (z : State) (h : Half) (K : SomePending s w room t z h) where
  abbrev T : RoundTrees
  T = K.half.trees

  abbrev S : RoundStands s K.half.work room t z K.half.trees
  S = K.half.standing

  abbrev H : Halfway s K.half.work room t z h w
  H = K.half.halfway

  pub pile_clear : (72 ≤ h.g.slots) × (h.g.slots ≤ length w)
  pile_clear = piles.clear_room s K.half.work room t z T S h w H K.pushed K.admitted

  pub pile_low : z.low ≤ room.end
  pile_low = omega (arith, places.low-is s K.half.work room t z T S)

  pub pile_first : room.first ≤ room.cap
  pile_first = omega (arith, places.sizes-fit s K.half.work room t z T S)

  pub pile_past : room.end - z.low ≤ room.cap - room.first
  pile_past = omega (arith, places.low-is s K.half.work room t z T S, places.sizes-fit s K.half.work room t z T S)

  pub pile_limit : Bound.Fits w64 (room.y + (room.cap - room.first - (room.end - z.low)))
  pile_limit = record { fits = omega (arith, S.map.end_is, S.map.inside, S.map.short) }

  pub pile_some : (w1 : List ℕ) → Cleared h.g.slots w w1 → (v : Appended) → v ≡ at_start h.r → SomePile s w1 h.g h.r.pile (room.y + (room.cap - room.first - (room.end - z.low))) t v
  unfolding limit_of
  pile_some w1 k v e = rw e (piles.some_pile s K.half.work room t z T S h w H K.pushed K.admitted w1 k)

pub pile_done : (s w : List ℕ) (room : Room) (t : Grammar) (z : State) (h : Half) (w1 : List ℕ) → Cleared h.g.slots w w1 → (v : Appended) → v ≡ at_start h.r → (q : Result Appended Refusal) (w2 : List ℕ)
    → Drains s w1 h.g h.r.pile (room.y + (room.cap - room.first - (room.end - z.low))) t v q w2 → DrainsPile s w room t z h q w2
unfolding DrainsPile limit_of
pile_done s w room t z h w1 k v e q w2 d work T S H p f =
    piles.drained s work room t z T S h w H p f w1 k q w2 (subst (λ (x : Appended). Drains s w1 h.g h.r.pile (limit_of room z) t x q w2) e d)

pub ruleset piling = (rules, pile_clear, pile_low, pile_first, pile_past, pile_limit, pile_some, pile_done)

-- ---- settle_texts
module _ (s w : List ℕ) (room : Room) (t : Grammar) (z : State) (h : Half) (v : Appended) (K : SomeDrained s w room t z h v) where
  abbrev I : SomeAppended s w room t z h v
  I = K.items

  abbrev P : SomePending s K.items.before room t z h
  P = K.items.pending

  abbrev A : SomeHalf s K.items.before room t z h
  A = K.items.pending.half

  pub settle_pushed : SomePushed s w h.g h.r.pile
  settle_pushed = appended.some_pushed s A.work room t z A.trees A.standing h I.before A.halfway P.pushed P.admitted I.new v w I.drained I.is K.admitted

  pub settle_can : (w1 : List ℕ) → MarkedPushed s w h.g h.r.pile w1 → Settling s w1 h.g h.r.pile v.count z.low
  settle_can w1 M =
      marked_settling s w h.g h.r.pile v.count z.low w1
      (appended.can_settle s A.work room t z A.trees A.standing h I.before A.halfway P.pushed P.admitted I.new v w I.drained I.is K.admitted) M

  -- ---- settle_round
  to_y : room.y ≤ h.r.to
  to_y = omega (arith, (halves.items_lie s A.work room t z A.trees A.standing h I.before A.halfway).end)

  pub settle_x : room.x ≤ h.r.to
  settle_x = omega (arith, to_y, A.standing.map.y_is)

  pub settle_ordered : h.r.to ≤ v.to
  settle_ordered = omega (arith, (appended.new_lie s A.work room t z A.trees A.standing h I.before A.halfway P.pushed P.admitted I.new v w I.drained I.is K.admitted).end)

  pub settle_end : Bound.Fits w64 (room.x + (v.to - h.r.to))
  settle_end = record {
    fits = omega (
      arith,
      appended.all_fit s A.work room t z A.trees A.standing h I.before A.halfway P.pushed P.admitted I.new v w I.drained I.is K.admitted,
      to_y,
      A.standing.map.y_is,
      A.standing.map.end_is,
      A.standing.map.inside,
      A.standing.map.short,
    );
  }

  pub settle_tally : (h.expander.round ≤ h.expander.items) × (h.expander.items + h.expander.height < 18446744073709551615)
  settle_tally = tally.tally_fits s A.work room t z h I.before A.halfway A.trees A.standing

  pub settle_inside : (q : Settled) (w2 : List ℕ) → SettlesTexts s w z h v q w2 → v.to ≤ length w2
  settle_inside q w2 k =
      (bytes.can_move s A.work room t z A.trees A.standing h I.before A.halfway P.pushed P.admitted I.new v w I.drained I.is K.admitted k.middle k.marked q w2 k.settles).2

pub settle_both : (s w : List ℕ) (z : State) (h : Half) (v : Appended) (w1 : List ℕ) → MarkedPushed s w h.g h.r.pile w1 → (q : Settled) (w2 : List ℕ) → Settles s w1 h.g v.count z.low q w2
    → SettlesTexts s w z h v q w2
settle_both s w z h v w1 M q w2 Z = record { middle = w1; marked = M; settles = Z }

pub settle-done : (s w : List ℕ) (room : Room) (t : Grammar) (z : State) (h : Half) (v : Appended) (q : Settled) (w2 : List ℕ) → SettlesTexts s w z h v q w2 → (w3 : List ℕ)
    → w3 ≡ store w2 room.x (part h.r.to v.to w2) → (x : Expander) → x ≡ numbers_appended h.expander
    → SettlesRound s w room t z h v (record { expander = x; m = q.m; from = room.x; end = room.x + (v.to - h.r.to); done = h.r.to; low = q.at }) w3
unfolding SettlesRound
settle-done s w room t z h v q w2 k w3 e x i K =
    let I = K.items in
    let P = I.pending in
    let A = P.half in
    nexts.next_stands s A.work room t z A.trees A.standing h I.before A.halfway P.pushed P.admitted I.new v w I.drained I.is K.admitted k.middle k.marked q w2 k.settles w3 e x i

pub ruleset settling_texts = (rules, settle_pushed, settle_can, settle_both)

pub ruleset settling = (rules, settle_x, settle_ordered, settle_end, settle_tally, settle_inside, settle-done)
