-- `is_key`, `is_text`, `is_pushed`: prints of different forms differ, and the others are compared. The rules of `written`. Assumes nothing.
use mathlib.Core.Path.{◌≡◌, refl, sym, ap, ◌∙◌}
use mathlib.Core.Bool.{Bool, true, false}
use mathlib.Core.List.{List, []}
use Prim.Native.Nat.{ℕ, ◌+◌, ◌*◌, ◌<◌, ◌≤◌}
use native.Mathlib.Omega.{arith}
use borrow.Author.Rules.{rules}
use mir.Syntax.{w8, w64}
use mir.Val as Bound
use lib.Dec.{leb, eqb}
use lib.ListN.{length, get_or}
use Rattle.octets.specs.Plain.Runs.{same_as}
use Rattle.octets.proofs.SameLaws.{same_as-eq, same_as-sym}
use Rattle.parse_tree.specs.Plain.Tree.{Text}
use Rattle.texts.specs.Hash.{hash_of}
use Rattle.texts.specs.Fields.{mark_at, cell_at}
use Rattle.texts.specs.Forms.{stop}
use Rattle.texts.specs.Search.{Searched}
use Rattle.texts.specs.Table.{texts, Finds}
use Rattle.texts.proofs.TableFindCode.{find_is}
use Rattle.display.specs.declared.form.Form.{Form}
use Rattle.display.specs.Form.{text_form}
use Rattle.display.specs.Standing.{SomeSym}
use Rattle.std.specs.Prelude.{Option, Some, None, MatchOption}
use Rattle.display.proofs.MetLaws.{whole_met, met_is}
use Rattle.display.specs.Window.{SamePrints}
use Rattle.replacing.specs.Prints.{print_at}
use Rattle.expander.specs.declared.Ground.{Ground}
use Rattle.expander.specs.declared.meet.Compared.{Compared}
use Rattle.expander.specs.Ground.{Grounded, Records, KeyAt, symbol_in, printed_at, key_at, pushed_text, size_in, top_of}
use Rattle.expander.specs.Meet.{InnerNoted, SomeInner, Compares}
use Rattle.expander.proofs.StageReads.{grounded_readable, read_room, key_stands, key_some, key_room}

-- ---- the form of a text
pub form_hash : (t : Text) (f : Form) → f ≡ text_form t → f.hash ≡ hash_of t
unfolding text_form
form_hash t f p = ap (λ (x : Form). x.hash) p

form_length : (t : Text) (f : Form) → f ≡ text_form t → f.len ≡ stop (length t)
unfolding text_form
form_length t f p = ap (λ (x : Form). x.len) p

unlike : (x t : Text) → (x ≡ t → ⊥) → false ≡ same_as x t
unlike x t n = go (same_as x t) refl
  where
    go : (b : Bool) → same_as x t ≡ b → false ≡ b
    go true e = absurd (n (same_as-eq x t e))
    go false e = refl

-- ---- a symbol that is expanded
module _ (s w : List ℕ) (g : Ground) (G : Grounded s w g) (b : (j : ℕ) → Bound.Fits w8 (get_or w j 0)) (p : ℕ) (k : KeyAt s w g p) where
  pub place_some : SomeSym s w g.m g.width.bytes 64 (g.from + p)
  place_some = key_some s w g (λ j. (b j).fits) G p k

  pub place_fits : Bound.Fits w64 (g.from + p)
  unfolding size_in
  place_fits = record { fits = omega (arith, key_room s w g (λ j. (b j).fits) G p k, G.inside, G.short) }

-- ---- `is_key`: the i-th of n pushed symbols, and the one at p
module _ (s w : List ℕ) (g : Ground) (n i : ℕ) (G : Grounded s w g) (R : Records s w g n) (l : i < n) where
  pub record_room : g.keys + 24 * i + 24 ≤ length w
  unfolding top_of
  record_room = omega (arith, R.few, G.fits, G.top)

  module _ (b : (j : ℕ) → Bound.Fits w8 (get_or w j 0)) (q : ℕ) (e : q ≡ mark_at w g.keys i) where
    record_key : KeyAt s w g q
    unfolding key_at
    record_key = rw e (R.keys i l)

    pub record_some : SomeSym s w g.m g.width.bytes 64 (g.from + q)
    record_some = place_some s w g G b q record_key

    pub record_fits : Bound.Fits w64 (g.from + q)
    record_fits = place_fits s w g G b q record_key

    pub record_same : (p : ℕ) (r : Bool) → KeyAt s w g p → SamePrints s w g.m g.width.bytes 64 (g.from + q) (g.from + p) r → r ≡ same_as (printed_at s w g (key_at w g i)) (printed_at s w g p)
    unfolding key_at print_at
    record_same p r k z =
        z.says false false _ _ _ _ (key_stands s w g (λ j. (b j).fits) G q record_key) (key_stands s w g (λ j. (b j).fits) G p k)
        ∙ ap (λ (u : ℕ). same_as (printed_at s w g u) (printed_at s w g p)) e

  module _ (p : ℕ) (f : Form) (a : f ≡ text_form (printed_at s w g p)) where
    pub record_length : (v r : ℕ) → v ≡ cell_at w g.keys i → r ≡ v → (r ≡ f.len → ⊥) → false ≡ same_as (printed_at s w g (key_at w g i)) (printed_at s w g p)
    record_length v r e h d =
        unlike (printed_at s w g (key_at w g i)) (printed_at s w g p)
        (λ c. d (h ∙ e ∙ R.lengths i l ∙ ap (λ (t : Text). stop (length t)) c ∙ sym (form_length (printed_at s w g p) f a)))

pub ruleset keying = (rules, grounded_readable, place_some, place_fits, record_room, record_some, record_fits, record_same, record_length)

-- ---- `is_text`
module _ (s w : List ℕ) (g : Ground) (G : Grounded s w g) (b : (j : ℕ) → Bound.Fits w8 (get_or w j 0)) (p : ℕ) (y : KeyAt s w g p) where
  pub key_inner : InnerNoted s w g p → SomeInner s w g 64 (g.from + p)
  key_inner N = record {
    four = false;
    place = p;
    end = y.end;
    symbol = symbol_in s w g p;
    is = refl;
    levels = omega arith;
    stands = key_stands s w g (λ j. (b j).fits) G p y;
    inside = (read_room s w g (λ j. (b j).fits) G 64 p (symbol_in s w g p) y.end y.read).1;
    noted = N;
  }

  module _ (k : ℕ) (t : Text) (q : Compared) (e : t ≡ get_or (texts s w g.m) k []) (f : Compares s w g 64 t (record { at = g.from + p; i = 0 }) q) where
    key_met : whole_met t q.i ≡ same_as (get_or (texts s w g.m) k []) (printed_at s w g p)
    unfolding print_at
    key_met =
        ap (whole_met t) (f.met false _ _ (key_stands s w g (λ j. (b j).fits) G p y)) ∙ sym (met_is t 0 (printed_at s w g p) (omega arith))
        ∙ same_as-sym (printed_at s w g p) t ∙ ap (λ (u : Text). same_as u (printed_at s w g p)) e

    key_same : (i : ℕ) → q.i ≡ Some i → eqb i (length t) ≡ same_as (get_or (texts s w g.m) k []) (printed_at s w g p)
    unfolding whole_met
    key_same i z = ap (whole_met t) (sym z) ∙ key_met

    key_differs : q.i ≡ None → false ≡ same_as (get_or (texts s w g.m) k []) (printed_at s w g p)
    unfolding whole_met
    key_differs z = ap (whole_met t) (sym z) ∙ key_met

    -- what a closure says of where the walk ends, and nothing after a difference
    pub key_told : (A : ℕ → Type 0) (r : Bool) → MatchOption q.i (r ≡ false) A → ((i : ℕ) → A i → r ≡ eqb i (length t)) → r ≡ same_as (get_or (texts s w g.m) k []) (printed_at s w g p)
    key_told A r y a = go q.i refl y
      where
        go : (o : Option ℕ) → q.i ≡ o → MatchOption o (r ≡ false) A → r ≡ same_as (get_or (texts s w g.m) k []) (printed_at s w g p)
        go (Some i) z h = a i h ∙ key_same i z
        go None z h = h ∙ key_differs z

pub ruleset texting = (rules, place_fits, key_inner)

-- ---- `written`: the table is gone through as by `find`
module _ (s w : List ℕ) (g : Ground) (p : ℕ) (f : Form) (G : Grounded s w g) (e : f ≡ text_form (printed_at s w g p)) where
  pub written_is : (A : ℕ → Bool → Type 0) (r : Option ℕ) → Searched A w g.m.base g.m.count f.hash r → ((i : ℕ) (a : Bool) → A i a → a ≡ same_as (get_or (texts s w g.m) i []) (printed_at s w g p)) → Finds (texts s w g.m) (printed_at s w g p) r
  written_is = find_is s w g.m (printed_at s w g p) f.hash G.table (form_hash (printed_at s w g p) f e)

-- ---- `is_pushed`
pub pushed-is : (w : List ℕ) (g : Ground) (k v : ℕ) → v ≡ cell_at w g.m.base k → (r : Bool) → r ≡ leb 2147483648 v → r ≡ pushed_text w g k
unfolding pushed_text
pushed-is w g k v e r f = f ∙ ap (leb 2147483648) e
