-- What an entry tells is what its call left. Assumes nothing.
use mathlib.Core.Path.{◌≡◌, ap, ◌∙◌}
use mathlib.Core.List.{List, []}
use Prim.Native.Nat.{ℕ}
use Rattle.answer.specs.declared.Answer.{Answer}
use Rattle.answer.specs.declared.Call.{Call}
use Rattle.answer.specs.declared.Call.TheVariants.{Join, WriteRecord, JudgeOutput}
use Rattle.answer.specs.declared.Registers.{Registers}
use Rattle.answer.specs.Answer.{told}
use Rattle.admission.specs.Refusals.{Outcome}
use Rattle.gsb.specs.Join.{Joining}
use Rattle.l0.specs.Numbered.{Called, kind_name}
use Rattle.records.specs.Write.{Written}
use Rattle.adderknot.specs.Entries.{Left, tells, leaves, Filled, fills, Made, makes, Wrote, writes, writes_record}

module _ (c : Call) (r : Registers) (a : Answer) (s : List ℕ) (o : Outcome) (e : ◌≡◌ {A = Outcome} (record { answer = a; store = s; buffer = [] }) o) (h : r ≡ told c a.fault a.value) where
  pub told_numbers : r ≡ tells c o
  told_numbers = h ∙ ap (tells c) e

  pub told_all : ◌≡◌ {A = Left} (record { registers = r; store = s }) (leaves c o)
  told_all = ap (λ (x : Registers). record { registers = x; store = s }) h ∙ ap (leaves c) e

pub told_filled : (c : Call) (r : Registers) (a : Answer) (s b : List ℕ) (o : Outcome) → ◌≡◌ {A = Outcome} (record { answer = a; store = s; buffer = b }) o → r ≡ told c a.fault a.value
    → ◌≡◌ {A = Filled} (record { registers = r; store = s; buffer = b }) (fills c o)
told_filled c r a s b o e h = ap (λ (x : Registers). record { registers = x; store = s; buffer = b }) h ∙ ap (fills c) e

pub told_made : (kind : ℕ) (c : Call) (r : Registers) (a : Answer) (s d u : List ℕ) (o : Called) → c ≡ kind_name kind
    → ◌≡◌ {A = Called} (record { answer = a; store = s; «data» = d; output = u }) o → r ≡ told c a.fault a.value
    → ◌≡◌ {A = Made} (record { registers = r; store = s; «data» = d; output = u }) (makes kind o)
told_made kind c r a s d u o n e h =
    ap (λ (x : Registers). record { registers = x; store = s; «data» = d; output = u }) (h ∙ ap (λ (x : Call). told x a.fault a.value) n) ∙ ap (makes kind) e

pub told_written : (t : Registers) (a : Answer) (r : List ℕ) (j : Joining) → ◌≡◌ {A = Joining} (record { answer = a; result = r }) j → t ≡ told Join a.fault a.value
    → ◌≡◌ {A = Wrote} (record { registers = t; result = r }) (writes j)
told_written t a r j e h = ap (λ (x : Registers). record { registers = x; result = r }) h ∙ ap writes e

pub told_record : (t : Registers) (a : Answer) (b : List ℕ) (w : Written) → ◌≡◌ {A = Written} (record { answer = a; bytes = b }) w → t ≡ told WriteRecord a.fault a.value
    → ◌≡◌ {A = Wrote} (record { registers = t; result = b }) (writes_record w)
told_record t a b w e h = ap (λ (x : Registers). record { registers = x; result = b }) h ∙ ap writes_record e

pub told_judged : (r : Registers) (a x : Answer) → a ≡ x → r ≡ told JudgeOutput a.fault a.value → r ≡ told JudgeOutput x.fault x.value
told_judged r a x e h = h ∙ ap (λ (y : Answer). told JudgeOutput y.fault y.value) e
