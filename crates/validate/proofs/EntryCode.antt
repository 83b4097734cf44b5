-- The ways out of `validate` and `validate_items`. Assumes nothing.
use mathlib.Core.Path.{◌≡◌, refl, sym, ap, ◌∙◌}
use mathlib.Core.Bool.{Bool, true}
use mathlib.Core.List.{List, []}
use Prim.Native.Nat.{ℕ, ◌*◌, ◌≤◌}
use native.Mathlib.Omega.{arith}
use borrow.Author.Rules.{rules}
use lib.ListN.{length, get_or}
use mir.Syntax.{w8}
use mir.Val.{Fits}
use Rattle.std.specs.Prelude.{Result, Ok, Err}
use Rattle.octets.specs.declared.numbers.Width.{Width}
use Rattle.parse_tree.specs.Plain.Tree.{Stage}
use Rattle.parse_tree.specs.Plain.Reading.{got, then}
use Rattle.parse_tree.specs.Working.Decode.{read_atoms, read_items, decode_by}
use Rattle.parse_tree.proofs.Written.{written}
use Rattle.parse_tree.specs.declared.refusal.Refusal.{Refusal}
use Rattle.parse_tree.specs.Plain.Texts.{distinct}
use Rattle.texts.specs.Atoms.{atoms_of, place_of}
use Rattle.texts.specs.declared.Map.{Map}
use Rattle.texts.specs.Table.{linked}
use Rattle.validate.specs.Steps.{Refuses, Noted, Lists}
use Rattle.validate.specs.Front.{Counted, Starts, All, Twice, Fronted}
use Rattle.validate.specs.Whole.{Fronts, Validates}
use Rattle.validate.specs.declared.Atoms.{Atoms}
use Rattle.validate.proofs.CommandCode.{then_is, refuses_then, refuses_as}
use Rattle.validate.proofs.FrontReads.{reads_all, reads_again}

-- the table of the atoms with the width of their numbers
abbrev table_of : Bool → Width → Map → Atoms
table_of four width t = record { texts = t; width = width; four = four }

pub front_starts : (s w : List ℕ) (at n : ℕ) → Counted s at n → 8 * length s ≤ length w → Starts s w at n
front_starts s w at n g h = record { here = g.here; inside = g.inside; small = h }

-- ---- `validate`: r is what `atoms` answered
module _ (four : Bool) (width : Width) (s w : List ℕ) (at n : ℕ) (g : Counted s at n) (r : Result Map Refusal) (i : Fronted s at n r w) where
  pub atoms_refused : (z : Refusal) → r ≡ Err z → Validates four width.bytes s (Err z) w
  unfolding Fronted Validates decode_by
  atoms_refused z e =
      let t : Twice s n z = rw e at i in
      refuses_then (read_atoms four width.bytes s (length s) [] 0) _ z (refuses_as _ 3 t.place z t.is (reads_again four width.bytes s at n g t.place t.again))

  module _ (t : Map) (e : r ≡ Ok t) where
    all : All s w t at n
    unfolding Fronted
    all = rw e at i

    apart_now : distinct (atoms_of s t.count) ≡ true
    apart_now = ap (λ (k : ℕ). distinct (atoms_of s k)) all.count ∙ all.apart

    pub items_ready : ((j : ℕ) → Fits w8 (get_or s j 0)) → Fronts s w (table_of four width t) at
    items_ready b = record {
      listing = record {
        ready = record {
          ready = record {
            table = all.table;
            same = all.same ∙ ap (atoms_of s) (sym all.count);
            classes = λ j l. all.classes j (omega (arith, all.count));
            blank = λ j l. all.blank j (omega (arith, all.count));
          };
          apart = apart_now;
          inside = g.inside;
        };
        above = all.above;
        base = all.base;
      };
      here = g.here ∙ ap (place_of s) (sym all.count);
      buckets = all.buckets ∙ ap linked (sym all.count);
      read = reads_all four width.bytes s at n g (λ j. (b j).fits) all.apart ∙ ap (λ (k : ℕ). got (atoms_of s k) at) (sym all.count);
    }

pub ruleset wholes = (rules, front_starts, atoms_refused, items_ready)

-- ---- `validate_items`: y is what `items` answered, w1 what it left
module _ (s w : List ℕ) (m : Atoms) (at : ℕ) (g : Fronts s w m at) (y : Result ℕ Refusal) (w1 : List ℕ) (j : Lists s m at y w1) where
  behind : decode_by m.four m.width.bytes s ≡ then (read_items m.four m.width.bytes s (atoms_of s m.texts.count) (length s) at) (λ is d. got (record { atoms = atoms_of s m.texts.count; items = is }) d)
  unfolding decode_by
  behind = then_is (read_atoms m.four m.width.bytes s (length s) [] 0) _ (atoms_of s m.texts.count) at g.read

  pub items_refused : (z : Refusal) → y ≡ Err z → Validates m.four m.width.bytes s (Err z) w1
  unfolding Lists Validates
  items_refused z f =
      let q : Refuses (read_items m.four m.width.bytes s (atoms_of s m.texts.count) (length s) at) z = rw f at j in
      let n = refuses_then (read_items m.four m.width.bytes s (atoms_of s m.texts.count) (length s) at) _ z q in
      record { is = behind ∙ n.is; twice = n.twice }

  pub items_valid : (k : ℕ) → y ≡ Ok k → ((i : ℕ) → Fits w8 (get_or s i 0)) → Validates m.four m.width.bytes s (Ok (record { atoms = m; at = at; items = k })) w1
  unfolding Lists Validates
  items_valid k f b =
      let x : Noted s w1 m at k = rw f at j in
      let tree : Stage = record { atoms = atoms_of s m.texts.count; items = x.items } in
      let z : decode_by m.four m.width.bytes s ≡ got tree x.end = behind ∙ then_is (read_items m.four m.width.bytes s (atoms_of s m.texts.count) (length s) at) _ x.items x.end x.read in
      let l : x.end ≡ length s = (written m.four m.width.bytes s tree x.end (λ n. (b n).fits) z).end in
      record {
        items = x.items;
        wide = refl;
        here = g.here;
        base = x.tabled.base;
        buckets = g.buckets;
        above = x.tabled.above;
        ready = x.tabled.ready;
        read = x.read ∙ ap (got x.items) l;
        decoded = z ∙ ap (got tree) l;
        many = x.many;
        noted = x.noted;
      }

pub ruleset behind_atoms = (rules, items_refused, items_valid)
