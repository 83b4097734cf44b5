-- What stays where an alternative is put and renamed: the bytes below it, and those from lim + 16 on. Assumes nothing.
use mathlib.Core.Path.{◌≡◌, refl, ◌∙◌}
use mathlib.Core.Bool.{Bool, true, false}
use mathlib.Core.Logic.{◌⊎◌, inl, inr}
use mathlib.Core.List.{List, ◌++◌}
use Prim.Native.Nat.{ℕ, zero, suc, ◌+◌, ◌-◌, ◌<◌, ◌≤◌}
use native.Mathlib.Omega.{arith}
use borrow.Author.Tests.{leb-false, le-leb, lt-leb}
use lib.Dec.{leb, eqb}
use lib.ListN.{length, get_or, length-append}
use Rattle.std.specs.Prelude.{Option, Some, None}
use Rattle.octets.specs.Working.Choice.{pick}
use Rattle.octets.specs.Plain.Numbers.{le}
use Rattle.octets.specs.Plain.Runs.{part}
use Rattle.octets.specs.Working.Stores.{store}
use Rattle.octets.proofs.NumbersLaws.{length-le}
use Rattle.octets.proofs.PartLaws.{part_length}
use Rattle.octets.proofs.StoreLaws.{length_store, get_d_store_before, get_d_store_after}
use Rattle.parse_tree.specs.Working.Nodes.{long_of}
use Rattle.grades.specs.declared.Assoc.{Assoc}
use Rattle.grades.specs.Skip.{names_at}
use Rattle.grades.specs.Annotations.{conditions_from, symbols_from}
use Rattle.grades.specs.declared.Indices.{Indices}
use Rattle.precedence.specs.declared.substitute.Marks.{Marks}
use Rattle.precedence.specs.declared.substitute.Renaming.{Renaming}
use Rattle.precedence.specs.Substitute.{marked_at, MarksIn, replace_out, replace_all, name_out, substitute_out}
use Rattle.precedence.specs.Write.{kept_bytes, head_out, fewer_by, stripped_out, PutsRenamed}
use Rattle.precedence.proofs.WriteLaws.{fits_or_not, puts_beside}

-- from w to w' no byte below a or from e + 16 on has changed
pub record Between (a e : ℕ) (w w' : List ℕ) : Type 0 where
  pub long : length w' ≡ length w
  pub same : (i : ℕ) → (i < a) ⊎ (e + 16 ≤ i) → get_or w' i 0 ≡ get_or w i 0

between_none : (a e : ℕ) (w : List ℕ) → Between a e w w
between_none a e w = record { long = refl; same = λ i h. refl }

between-both : (a e : ℕ) (w w1 w2 : List ℕ) → Between a e w w1 → Between a e w1 w2 → Between a e w w2
between-both a e w w1 w2 x y = record { long = y.long ∙ x.long; same = λ i h. y.same i h ∙ x.same i h }

module _ (wd a e : ℕ) (narrow : wd ≤ 3) where
  between-store : (w : List ℕ) (p v : ℕ) → a ≤ p → p < e → Between a e w (store w (p + 9) (le wd v))
  between-store w p v h k = record { long = length_store w (p + 9) (le wd v); same = λ i o. go i o }
    where
      go : (i : ℕ) → (i < a) ⊎ (e + 16 ≤ i) → get_or (store w (p + 9) (le wd v)) i 0 ≡ get_or w i 0
      go i (inl x) = get_d_store_before w (p + 9) (le wd v) i (omega arith)
      go i (inr x) = get_d_store_after w (p + 9) (le wd v) i (omega (arith, length-le wd v))

  -- a run of renaming, with its marks
  record Ran (w : List ℕ) (x : List ℕ × Option Marks) : Type 0 where
    pub bytes : Between a e w x.0
    pub marks : MarksIn a e x.1

  ran_more : (w w1 : List ℕ) (x : List ℕ × Option Marks) → Between a e w w1 → Ran w1 x → Ran w x
  ran_more w w1 x y z = record { bytes = between-both a e w w1 x.0 y z.bytes; marks = z.marks }

  marks_on : (p : ℕ) (m : Option Marks) → a ≤ p → p < e → MarksIn a e m → MarksIn a e (Some (marked_at p m))
  unfolding marked_at
  marks_on p (Some m) h l k = (k.0, k.1, h, l)
  marks_on p None h l k = (h, l, h, l)

  replace_ran : (target rest f : ℕ) (w : List ℕ) (p : ℕ) (m : Option Marks) → a ≤ p → MarksIn a e m → Ran w (replace_out wd target rest f w p e m)
  unfolding replace_out pick
  replace_ran target rest zero w p m h k = record { bytes = between_none a e w; marks = k }
  replace_ran target rest (suc f) w p m h k =
      go (leb e p) (names_at wd target w p) refl
      (λ l. replace_ran target rest f (store w (p + 9) (le wd rest)) (p + (9 + wd)) (Some (marked_at p m)) (omega arith) (marks_on p m h l k))
      (replace_ran target rest f w (p + long_of wd (get_or w p 0)) m (omega arith) k)
    where
      go : {named other : List ℕ × Option Marks} (b c : Bool) → leb e p ≡ b → (p < e → Ran (store w (p + 9) (le wd rest)) named) → Ran w other → Ran w (pick b (w, m) (pick c named other))
      go true c z x y = record { bytes = between_none a e w; marks = k }
      go {named} false true z x y = let l = leb-false e p z in ran_more w (store w (p + 9) (le wd rest)) named (between-store w p rest h l) (x l)
      go false false z x y = y

  all_ran : (target rest : ℕ) (w : List ℕ) → a ≤ e → Ran w (replace_all wd target rest w a e)
  unfolding replace_all
  all_ran target rest w h = replace_ran target rest e w a None (omega arith) tt

  first_between : (w : List ℕ) (m : Option Marks) (v : ℕ) → MarksIn a e m → Between a e w (name_out wd w (λ k. k.first) m v)
  unfolding name_out
  first_between w (Some m) v h = between-store w m.first v h.0 h.1
  first_between w None v h = between_none a e w

  last_between : (w : List ℕ) (m : Option Marks) (v : ℕ) → MarksIn a e m → Between a e w (name_out wd w (λ k. k.last) m v)
  unfolding name_out
  last_between w (Some m) v h = between-store w m.last v h.2 h.3
  last_between w None v h = between_none a e w

  substitute-between : (w : List ℕ) (target here below : ℕ) (s : Assoc) → a ≤ e → Between a e w (substitute_out wd w a e target here below s)
  unfolding substitute_out pick
  substitute-between w target here below Assoc.Left h =
      let r = all_ran target below w h in
      between-both a e w _ _ r.bytes (first_between (replace_all wd target below w a e).0 (replace_all wd target below w a e).1 here r.marks)
  substitute-between w target here below Assoc.Right h =
      let r = all_ran target below w h in
      between-both a e w _ _ r.bytes (last_between (replace_all wd target below w a e).0 (replace_all wd target below w a e).1 here r.marks)
  substitute-between w target here below Assoc.NonAssoc h = (all_ran target below w h).bytes
  substitute-between w target here below Assoc.FullyAssoc h = go (eqb here target)
    where
      go : (b : Bool) → Between a e w (pick b w (replace_all wd target here w a e).0)
      go true = between_none a e w
      go false = (all_ran target here w h).bytes

-- what is put holds the symbols
stripped_long : (wd : ℕ) (w : List ℕ) (p e : ℕ) (f : Indices) → symbols_from wd w p ≤ e → e ≤ length w → e - symbols_from wd w p ≤ length (stripped_out wd w p e f)
unfolding stripped_out symbols_from
stripped_long wd w p e f h k =
    let n = get_or w (p + 9) 0 in
    let H = head_out wd w p (fewer_by (fewer_by n f.precedence) f.assoc) in
    let K = kept_bytes wd w (p + (14 + wd)) n 0 f in
    let P = part (conditions_from wd w p) e w in
    let x = length-append H (K ++ P) in
    let y = length-append K P in
    omega (arith, part_length (conditions_from wd w p) e w (omega arith))

-- theorem: bytes below the cursor and from lim + 16 on stay, and the cursor goes on
pub renamed_between : (wd : ℕ) (w : List ℕ) (p e : ℕ) (f : Indices) (v : Renaming) (lim to r : ℕ) (w1 : List ℕ) → wd ≤ 3 → symbols_from wd w p ≤ e → e ≤ length w → to ≤ lim + 1
    → PutsRenamed wd w p e f v lim to r w1 → Between to lim w w1
unfolding pick
renamed_between wd w p e f v lim to r w1 narrow h k l q = go (fits_or_not r lim)
  where
    put : Between to lim w q.work
    put = record { long = q.puts.long; same = λ i o. puts_beside w q.work lim to _ r q.puts i (elim o [ inl x ↦ inl x | inr x ↦ inr (omega arith) ]) }

    low : r ≤ lim → to ≤ r - (e - symbols_from wd w p)
    low o = elim (fits_or_not (to + length (stripped_out wd w p e f)) lim) [
      | inl x ↦ omega (arith, q.puts.after x, stripped_long wd w p e f h k)
      | inr x ↦ absurd (omega (arith, q.puts.over x))
    ]

    go : (r ≤ lim) ⊎ (lim < r) → Between to lim w w1
    go (inl o) =
        let z = le-leb r lim o in
        let y : w1 ≡ substitute_out wd q.work (r - (e - symbols_from wd w p)) r v.target v.here v.below v.side = rw z at q.renamed in
        let b = substitute-between wd (r - (e - symbols_from wd w p)) r narrow q.work v.target v.here v.below v.side (omega arith) in
        between-both to lim w q.work w1 put (rw y (record { long = b.long; same = λ i u. b.same i (elim u [ inl x ↦ inl (omega (arith, low o)) | inr x ↦ inr (omega arith) ]) }))
    go (inr o) =
        let z = lt-leb r lim o in
        let y : w1 ≡ q.work = rw z at q.renamed in
        rw y put
