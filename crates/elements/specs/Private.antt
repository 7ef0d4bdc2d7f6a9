-- Names that only laws and the contracts of private functions use.
use Rattle.std.specs.Prelude.{ℕ, zero, suc, ◌+◌, ◌-◌, ◌*◌, cond, List, [], ◌∷◌, ltb, leb, eqb}
use Rattle.elements.specs.declared.Access.{Access}
use Rattle.elements.specs.declared.Scope.TheVariants.{Thread}
use Rattle.elements.specs.declared.Row.{Row}
use Rattle.elements.specs.declared.Source.{Source}
use Rattle.elements.specs.declared.Source.TheVariants.{Fixed, Stored}
use Rattle.elements.specs.declared.Kind.{Kind}
use Rattle.elements.specs.declared.Kind.TheVariants.{Unlisted, Listed}
use Rattle.elements.specs.declared.Element.{Element}
use Rattle.elements.specs.Table.{many, bytes_in}
use Rattle.elements.specs.Ranges.{range_at}

-- a listed element of a slot
abbrev pub thread_kind : ℕ → Access → ℕ → Kind
thread_kind n a p = Listed (record { size = n; access = a; scope = Thread; source = Stored p })

-- n ranges, from number i on
unfoldable pub ranges_from : ℕ → ℕ → List Row
ranges_from zero i = []
ranges_from (suc n) i = range_at i ∷ ranges_from n (suc i)

-- ---- the scans: the rows ascend, so the first whose last ID is not below the given one decides. `at` and `n` are the bytes and the
-- elements that stand before the rows that are left.
abbrev pub bytes_each : Row → ℕ
bytes_each r = bytes_in r.scope r

abbrev pub source_at : ℕ → ℕ → Source
source_at id p = cond (eqb id 0x0001) (Fixed 1844) (cond (eqb id 0x0002) (Fixed 124) (Stored p))

abbrev pub listed_as : Row → ℕ → ℕ → Kind
listed_as r id at =
    Listed (record { size = r.size; access = r.access; scope = r.scope; source = source_at id (at + bytes_each r * (id - r.first)) })

unfoldable pub scanned : List Row → ℕ → ℕ → Kind
scanned [] id at = Unlisted
scanned (r ∷ rs) id at =
    cond (ltb id r.first) Unlisted (cond (leb id r.last) (listed_as r id at) (scanned rs id (at + bytes_each r * many r)))

unfoldable pub counted : List Row → ℕ → ℕ → ℕ
counted [] id n = n
counted (r ∷ rs) id n = cond (ltb id r.first) n (cond (leb id r.last) (n + (id - r.first)) (counted rs id (n + many r)))

unfoldable pub element_in : List Row → ℕ → ℕ → Element
element_in [] e at = record { id = 0; size = 0; position = 0 }
element_in (r ∷ rs) e at =
    cond (ltb e (many r))
    (record { id = r.first + e; size = r.size; position = at + bytes_each r * e })
    (element_in rs (e - many r) (at + bytes_each r * many r))
