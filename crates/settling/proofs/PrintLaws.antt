-- Symbols and texts stay where bytes are written behind the symbols and before the texts. Assumes nothing.
use mathlib.Core.Path.{◌≡◌, sym, ap}
use mathlib.Core.Bool.{Bool}
use mathlib.Core.Logic.{inl, inr}
use mathlib.Core.List.{List, [], ◌∷◌}
use Prim.Native.Nat.{ℕ, ◌+◌, ◌*◌, ◌<◌, ◌≤◌}
use native.Mathlib.Omega.{arith}
use lib.ListN.{length, get_or, drop}
use Rattle.octets.specs.Plain.Runs.{Lies}
use Rattle.octets.proofs.LiesLaws.{lies_inside}
use Rattle.parse_tree.specs.Plain.Tree.{Sym, Syms}
use Rattle.parse_tree.specs.Working.Encode.{sym_bytes, syms_bytes}
use Rattle.texts.specs.declared.Map.{Map}
use Rattle.texts.specs.Fields.{mark_at}
use Rattle.texts.specs.Table.{texts}
use Rattle.texts.proofs.TableStays.{le_at-agree, whole_stays, texts-stay}
use Rattle.resolve.proofs.CellsLaws.{lies_agree}
use Rattle.display.specs.Standing.{SymStands, SymsStand}
use Rattle.precedence.specs.Write.{Puts}
use Rattle.precedence.proofs.WriteLaws.{puts_beside, puts_on, puts_upto}
use Rattle.expander.proofs.HeldStays.{Between}
use Rattle.settling.specs.Print.{Printable}

-- theorem: what is put lies from `to` up to lim
pub puts_between : (w : List ℕ) (lim to : ℕ) (xs : List ℕ) (r : ℕ) (w1 : List ℕ) → Puts w lim to xs r w1 → Between to lim w w1
puts_between w lim to xs r w1 p = record { long = p.long; others = λ i h. puts_beside w w1 lim to xs r p i h }

-- ---- where bytes from `to` up to lim were written
module _ (s w : List ℕ) (m : Map) (wd lim to : ℕ) (g : Printable s w m wd lim to) (w1 : List ℕ) (b : Between to lim w w1) where
  far : (i : ℕ) → lim ≤ i → i < length w → get_or w1 i 0 ≡ get_or w i 0
  far i h k = b.others i (inr h)

  marks : (i : ℕ) → i < m.count → mark_at w1 m.base i ≡ mark_at w m.base i
  unfolding mark_at
  marks i h = le_at-agree 8 w w1 (m.base + 24 * i) (λ j x y. b.others j (inl (omega (arith, g.records))))

  -- theorem: the texts stay
  pub between-texts : texts s w1 m ≡ texts s w m
  unfolding texts
  between-texts = texts-stay s w w1 m.base m.count lim g.readable.worded.whole g.above.above b.long far marks m.count (omega arith)

  -- theorem: one may print on from r
  pub between-printable : (r : ℕ) → to ≤ r → r ≤ lim + 1 → Printable s w1 m wd lim r
  between-printable r h k = record {
    readable = record {
      worded = record {
        room = omega (arith, g.readable.worded.room, b.long);
        whole = whole_stays s w w1 m.base m.count lim g.readable.worded.whole g.above.above b.long far marks;
      };
      narrow = g.readable.narrow;
      wide = g.readable.wide;
    };
    above = record { above = λ i l. rw (marks i l) (g.above.above i l) };
    records = omega (arith, g.records);
    inside = omega (arith, g.inside, b.long);
    stop = k;
  }

  lies_next : (a e : ℕ) (ys : List ℕ) → e ≤ to → Lies w a ys e → Lies w1 a ys e
  lies_next a e [] h l = let z : e ≡ a = omega (arith, l.end) in record { is = ap (λ (i : ℕ). drop i w1) (sym z); end = l.end }
  lies_next a e (y ∷ ys) h l = lies_agree w w1 a e (y ∷ ys) b.long (lies_inside w a e (y ∷ ys) (omega arith) l) (λ i x z. b.others i (inl (omega arith))) l

  -- theorem: a symbol stays that ends at `to` or before
  pub between-symbol : (four : Bool) (left at e : ℕ) (x : Sym) → e ≤ to → SymStands s w m wd four left at e x → SymStands s w1 m wd four left at e x
  between-symbol four left at e x h st =
      let z = between-texts in
      record { within = rw z st.within; lies = rw z (lies_next at e (sym_bytes wd (texts s w m) x) h st.lies) }

  -- theorem: and symbols do
  pub between-symbols : (four : Bool) (left at e : ℕ) (ys : Syms) → e ≤ to → SymsStand s w m wd four left at e ys → SymsStand s w1 m wd four left at e ys
  between-symbols four left at e ys h st =
      let z = between-texts in
      record { within = rw z st.within; lies = rw z (lies_next at e (syms_bytes wd (texts s w m) ys) h st.lies) }

-- ---- where bytes were put
module _ (s w : List ℕ) (m : Map) (wd lim to : ℕ) (g : Printable s w m wd lim to) (xs : List ℕ) (r : ℕ) (w1 : List ℕ) (p : Puts w lim to xs r w1) where
  -- theorem: the cursor goes on
  pub next_on : to ≤ r
  next_on = puts_on w w1 lim to xs r p g.stop

  -- theorem: one may print on
  pub printable_next : Printable s w1 m wd lim r
  printable_next = between-printable s w m wd lim to g w1 (puts_between w lim to xs r w1 p) r next_on (puts_upto w w1 lim to xs r p)

  -- theorem: symbols stay that end at `to` or before
  pub symbol_next : (four : Bool) (left at e : ℕ) (x : Sym) → e ≤ to → SymStands s w m wd four left at e x → SymStands s w1 m wd four left at e x
  symbol_next = between-symbol s w m wd lim to g w1 (puts_between w lim to xs r w1 p)

  pub symbols_next : (four : Bool) (left at e : ℕ) (ys : Syms) → e ≤ to → SymsStand s w m wd four left at e ys → SymsStand s w1 m wd four left at e ys
  symbols_next = between-symbols s w m wd lim to g w1 (puts_between w lim to xs r w1 p)
