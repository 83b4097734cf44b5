-- What the first round begins with where macros are expanded alone: a resolved tape. Assumes nothing.
use mathlib.Core.Path.{◌≡◌, sym, ap, ◌∙◌, subst}
use mathlib.Core.Bool.{true, false, false≢true}
use mathlib.Core.Logic.{inl}
use mathlib.Core.List.{List, [], ◌∷◌, append-nil}
use Prim.Native.Nat.{ℕ, ◌+◌, ◌-◌, ◌*◌, ◌/◌, ◌^◌, ◌≤◌, ◌<◌}
use native.Mathlib.Omega.{arith}
use lib.ListN.{length}
use Rattle.octets.specs.Working.Choice.{pick}
use Rattle.octets.proofs.PartLaws.{part_length}
use Rattle.parse_tree.specs.Plain.Tree.{Text, Item, item, Stage}
use Rattle.parse_tree.specs.Plain.Texts.{has, is_name, is_identifier}
use Rattle.parse_tree.specs.Plain.References.{stage_of}
use Rattle.parse_tree.specs.Plain.WriteTape.{bytes_of_each}
use Rattle.parse_tree.specs.Working.Encode.{atom_bytes, stage_bytes}
use Rattle.parse_tree.specs.Working.Within.{Each, SpanWithin, ItemWithin, StageWithin}
use Rattle.parse_tree.proofs.NothingNew.{none_new}
use Rattle.parse_tree.proofs.ReadingLaws.{each_all}
use Rattle.texts.specs.declared.Map.{Map}
use Rattle.passes.specs.Outcome.{Tree, yes}
use Rattle.passes.specs.Macros.{without_macros}
use Rattle.passes.specs.Sizes.{stage_fits}
use Rattle.passes.specs.Calls.{sizes}
use Rattle.meaning.specs.Spans.{ItemSpans}
use Rattle.meaning.proofs.Calls.Atoms.{stage_stocked}
use Rattle.meaning.proofs.Calls.Output.{item_spans, stage_within}
use Rattle.resolve.specs.declared.Grammar.{Grammar}
use Rattle.resolve.specs.Items.{Row}
use Rattle.rounds.specs.declared.Room.{Room}
use Rattle.rounds.specs.Begins.{BeginsRound}
use Rattle.rounds.specs.Define.{Items}
use Rattle.rounds.specs.Standing.{RoundTrees, round_atoms, Mapped, GrownTrees}
use Rattle.rounds.proofs.RoundBegins.{macros-begin}
use Rattle.rounds.proofs.RoundStages.{fine_parts}
use Rattle.rounds.proofs.ResolvedFew.{resolved-few}
use Rattle.stages.specs.Levelling.{SomeAdmitted}
use Rattle.stages.specs.Expanding.{macros_room, first_trees, FirstStands}
use Rattle.stages.proofs.StoodMean.{said}
use Rattle.stages.proofs.LevellingMeanStage.{admitted-is}

-- ---- a name is among the texts
name_long : (x : Text) → is_name x ≡ true → 1 ≤ length x
unfolding is_name is_identifier
name_long [] e = absurd (false≢true e)
name_long (b ∷ bs) e = omega arith

pub some_name : (ts : List Text) (R : Tree) → Each (ItemWithin true 2 ts) R → 0 < length R → (x : Text) × (has x ts ≡ true) × (1 ≤ length x)
unfolding pick
some_name ts [] h l = absurd (omega arith)
some_name ts (item d ∷ R) h l = (d.name, h.0.name.0, name_long d.name h.0.name.2)
some_name ts (Item.terminal s o x ∷ R) h l = (x, h.0.1.0, name_long x h.0.1.2)

-- a tape with items, whose resolved stage is admitted
pub record Start (s : List ℕ) (m : Map) (t : Grammar) (room : Room) (w : List ℕ) : Type 0 where
  pub some : 0 < t.count
  pub admitted : SomeAdmitted s room.cap m t room.first w
  pub room_is : room ≡ macros_room (length s) room.first room.cap
  pub short : length w < 256 ^ 8

module _ (s : List ℕ) (m : Map) (t : Grammar) (room : Room) (w : List ℕ) (A : Start s m t room w) where
  abbrev R : Tree
  R = A.admitted.stood.tree

  abbrev ts : List Text
  ts = A.admitted.stood.tape.atoms

  some_items : 0 < length R
  some_items = omega (arith, A.some, A.admitted.stood.levels.many)

  -- ---- macros can be told
  declared : Items s w m t true R
  declared =
      let l = A.admitted.stood.levels in
      let b = l.before A.some in
      let f = resolved-few true A.admitted.stood.tape R A.admitted.stood.within A.admitted.stood.is in
      record {
        cells = record { table = l.table; above = l.on_tape (m.base + 24 * m.count) };
        row = subst (λ (us : List Text). Row t us w 0 t.at R) (sym l.texts-are) l.row;
        within = subst (λ (us : List Text). Each (ItemWithin true t.width.bytes us) R) (sym l.texts-are) (subst (λ (n : ℕ). Each (ItemWithin true n ts) R) (sym l.width) l.within);
        many = l.many;
        few = omega (arith, f, l.many, A.admitted.few, A.admitted.stood.many);
        narrow = omega (arith, l.width);
        wide = omega (arith, l.width);
        off = inl b.items;
        list = b.list;
        inside = omega (arith, b.items, l.base, A.admitted.enough);
      }

  -- ---- numbers
  abbrev at : ℕ
  at = room.first

  x_is : room.x ≡ 8 * length s + (5 * room.cap - 2 * (room.cap / 9))
  unfolding macros_room
  x_is = ap (λ (u : Room). u.x) A.room_is

  y_is : room.y ≡ room.x + 2 * room.cap
  unfolding macros_room
  y_is = ap (λ (u : Room). u.y) A.room_is ∙ sym (ap (λ (u : Room). u.x + 2 * room.cap) A.room_is)

  end_is : room.end ≡ room.y + (room.cap + 2 * (room.cap / 9))
  unfolding macros_room
  end_is = ap (λ (u : Room). u.end) A.room_is ∙ sym (ap (λ (u : Room). u.y + (room.cap + 2 * (room.cap / 9))) A.room_is)

  first-is : at ≡ length (bytes_of_each (atom_bytes 2) ts)
  first-is = omega (arith, part_length 0 at s A.admitted.stood.inside, ap length A.admitted.stood.atoms)

  mapped : Mapped s (length w) room m.base
  mapped = record {
    items = length s - at;
    tape = omega (arith, A.admitted.stood.inside);
    base_is = A.admitted.stood.levels.base;
    x_is = x_is;
    y_is = y_is;
    end_is = end_is;
    inside = omega (arith, x_is, y_is, end_is, A.admitted.enough);
    short = A.short;
  }

  -- ---- the trees
  abbrev trees_of : RoundTrees
  trees_of = first_trees R ts [] 0

  all_atoms : round_atoms trees_of ≡ ts
  all_atoms = append-nil ts

  alike_within : StageWithin true 2 (record { atoms = ts; items = R })
  alike_within =
      let h = A.admitted.stood.within in
      record { apart = h.apart; short = h.short; items = A.admitted.stood.levels.within }

  stage_same : stage_of ts R ≡ record { atoms = ts; items = R }
  unfolding stage_of
  stage_same = ap (λ (us : List Text). record { atoms = us; items = R }) (none_new true 2 (record { atoms = ts; items = R }) alike_within)

  fine : sizes 2 room.cap (stage_of ts R) ≡ yes (stage_of ts R)
  fine =
      sym (said s w m t at A.admitted.stood room.cap) ∙ admitted-is s room.cap m t at w A.admitted ∙ ap yes (sym stage_same)

  begins : BeginsRound 2 R [] (without_macros R) [] (round_atoms trees_of) [] 0
  begins =
      subst (λ (us : List Text). BeginsRound 2 R [] (without_macros R) [] us [] 0) (ap (λ (g : Stage). g.atoms) stage_same ∙ sym all_atoms)
      (macros-begin 2 room.cap A.admitted.stood.tape R A.admitted.stood.within A.admitted.stood.is fine)

  stage_items : Each (ItemWithin false 2 (stage_of ts R).atoms) R
  unfolding stage_of
  stage_items =
      (stage_within 2 (stage_of ts R) (stage_stocked 2 room.cap ts R (stage_of ts R) A.admitted.stood.within.apart fine)
      (each_all (ItemWithin true 2 ts) (ItemSpans SpanWithin) (item_spans true 2 ts) R A.admitted.stood.levels.within)).items

  within_plain : Each (ItemWithin false 2 ts) R
  within_plain = subst (λ (g : Stage). Each (ItemWithin false 2 g.atoms) R) stage_same stage_items

  grown : GrownTrees room.cap trees_of
  grown =
      let x = fine_parts room.cap (stage_of ts R) fine in
      let e : stage_of ts R ≡ record { atoms = round_atoms trees_of; items = R } = stage_same ∙ ap (λ (us : List Text). record { atoms = us; items = R }) (sym all_atoms) in
      let n = some_name ts R A.admitted.stood.levels.within some_items in
      record {
        begins = begins;
        within = subst (λ (us : List Text). Each (ItemWithin false 2 us) R) (sym all_atoms) within_plain;
        fits = subst (λ (g : Stage). stage_fits 2 g ≡ true) e x.0;
        size = subst (λ (g : Stage). length (stage_bytes 2 g) ≤ room.cap) e x.1;
        owed_cap = omega arith;
        name = n.0;
        named = n.1;
        long = n.2;
      }

  -- theorem: the first round can begin
  pub start_stands : FirstStands s w m t room room.end true R ts [] 0
  unfolding bytes_of_each
  start_stands =
      let l = A.admitted.stood.levels in
      record {
        map = mapped;
        atoms = first-is;
        grown = grown;
        items = declared;
        buckets = l.some some_items;
        narrower = l.narrower;
        texts-are = l.texts-are ∙ sym all_atoms;
        above = l.on_tape room.end;
        past_fills = omega arith;
        width = l.width;
        some = some_items;
        off = inl (l.before A.some).items;
      }
