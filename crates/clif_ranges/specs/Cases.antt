-- The cases of a switch, and the texts of its refusals. Source: the module `switch` of cranelift-frontend; that a refusal leaves the
-- cases as they were is own.
use Rattle.std.specs.Prelude.{◌≡◌, ◌<◌, ◌≤◌, ◌^◌, ℕ, List, ◌∷◌, [], ◌++◌, codes, length, All, false}
use Rattle.std.specs.Coded.{Coded, coded_ℕ}
use Rattle.std.specs.Fmt.{decimal}
use Rattle.std.specs.FinMap as map
use Rattle.std.specs.HashMap.{HashMap}
use Rattle.std.specs.Ordering.{nat_cmp}
use Rattle.clif_types.specs.Texts.{build_error_text, type_text}
use Rattle.clif_types.specs.Types.{greatest_of}
use Rattle.clif_types.specs.declared.types.«Type».{«Type»}
use Rattle.clif_types.specs.declared.error.BuildError.TheVariants as build_error
use Rattle.clif_ranges.specs.Ranges.{AreRangesOf}
use Rattle.clif_ranges.specs.declared.ranges.CaseRange.{CaseRange}
use Rattle.clif_ranges.specs.declared.error.SwitchError.{SwitchError}
use Rattle.clif_ranges.specs.declared.error.SwitchError.TheVariants as switch_error

-- the number of each key's block, by rising keys
abbrev pub CaseMap : Type 0
CaseMap = map.FinMap nat_cmp ℕ

abbrev pub case_map_code : Coded CaseMap
case_map_code = map.code coded_ℕ coded_ℕ

-- the cases that the entries of a hash map are
abbrev pub cases_in : {S : Type 0} → HashMap ℕ ℕ S → CaseMap
cases_in kept = map.from_entries kept.entries

abbrev pub switch_error_text : SwitchError → List ℕ
switch_error_text (switch_error.SetTwice key) = codes "Tried to set the same entry " ++ decimal key ++ codes " twice"
switch_error_text (switch_error.KeyTooWide ty max) =
    codes "The index type " ++ type_text ty ++ codes " does not fit the maximum switch entry of " ++ decimal max
switch_error_text switch_error.TableTooLong = codes "Jump tables bigger than 2^32-1 are not yet supported"
switch_error_text (switch_error.Build error) = build_error_text error

-- a jump table may have so many entries
abbrev pub FitsTable : CaseRange → Type 0
FitsTable range = length range.blocks.items < 2 ^ 32

-- each key is a number of the type
abbrev pub FitType : CaseMap → «Type» → Type 0
FitType cases ty = All (λ case. case.0 ≤ greatest_of ty false) (map.entries cases)

-- the ranges are those of the cases, whose keys are numbers of the type, and none is too long
pub record AreRangesFor (cases : CaseMap) (ty : «Type») (ranges : List CaseRange) : Type 0 where
  pub fit : FitType cases ty
  pub ranges_of : AreRangesOf (map.entries cases) ranges
  pub tables : All FitsTable ranges

-- the last case has this key
abbrev pub IsGreatestKey : CaseMap → ℕ → Type 0
IsGreatestKey cases max = (front : List (ℕ × ℕ)) × (block : ℕ) × (map.entries cases ≡ front ++ (max, block) ∷ [])

-- the same, and the key is no number of the type
abbrev pub IsKeyTooWide : CaseMap → «Type» → ℕ → Type 0
IsKeyTooWide cases ty max = (greatest_of ty false < max) × IsGreatestKey cases max

-- the cases are refused so: first for their greatest key, and then for a range that is too long
abbrev pub IsRefusal : CaseMap → «Type» → SwitchError → Type 0
IsRefusal cases ty (switch_error.SetTwice key) = ⊥
IsRefusal cases ty (switch_error.KeyTooWide other max) = (other ≡ ty) × IsKeyTooWide cases ty max
IsRefusal cases ty switch_error.TableTooLong =
    FitType cases ty × (ranges : List CaseRange) × AreRangesOf (map.entries cases) ranges × ¬ (All FitsTable ranges)
IsRefusal cases ty (switch_error.Build error) = error ≡ build_error.Memory
