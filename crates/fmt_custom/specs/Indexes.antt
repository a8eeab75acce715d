-- How the blocks of an archive are found again.
use Rattle.std.specs.Prelude.{◌≡◌, ℕ, ◌-◌, List, length, drop, option_map, Result, Ok, Err, MatchOption, ⊤}
use Rattle.std.specs.Ordering.{nat_cmp}
use Rattle.std.specs.BTreeMap.{BTreeMap, get}
use Rattle.fmt_custom.specs.Blocks.{pieces_in}
use Rattle.toc_table.specs.Ids.{AreIds}
use Rattle.fmt_custom.specs.declared.blocks.Blocks.{Blocks}
use Rattle.fmt_custom.specs.declared.fault.BlockHalt.{BlockHalt}
use Rattle.fmt_custom.specs.declared.fault.BlockStop.{BlockStop}
use Rattle.fmt_custom.specs.Customs.{Found, ids_of, pieces_of, block_at, block_halt}

-- the map leads from each dump id to the place in the bytes where the pieces of its rows begin
abbrev pub LeadsToRows : List ℕ → BTreeMap ℕ ℕ → List Found → Type 0
LeadsToRows bytes rows found = (id : ℕ) → option_map (λ place. pieces_in (drop place bytes)) (get nat_cmp rows id) ≡ pieces_of id found

-- the map leads from the place of each block to its dump id
abbrev pub LeadsToIds : BTreeMap ℕ ℕ → List Found → Type 0
LeadsToIds starts found = (start : ℕ) → get nat_cmp starts start ≡ block_at start found

-- the rest is the end of the bytes
abbrev pub IsSuffix : List ℕ → List ℕ → Type 0
IsSuffix rest bytes = drop (length bytes - length rest) bytes ≡ rest

-- these are the blocks of the archive in these bytes
pub record AreFound (bytes : List ℕ) (blocks : Blocks) (found : List Found) : Type 0 where
  pub ids : AreIds blocks.ids (ids_of found)
  pub rows : LeadsToRows bytes blocks.rows found
  pub starts : LeadsToIds blocks.starts found

abbrev pub GivesBlocks : List ℕ → Result (List Found) BlockHalt → Result Blocks BlockStop → Type 0
GivesBlocks bytes due (Ok blocks) = (found : List Found) × (due ≡ Ok found) × AreFound bytes blocks found
GivesBlocks bytes due (Err e) = MatchOption (block_halt e) ⊤ (λ h. due ≡ Err h)
