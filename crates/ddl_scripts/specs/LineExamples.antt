-- What is known of some texts.
use Rattle.std.specs.Prelude.{◌≡◌, true, false, [], Some, None, Ok, Err, codes}
use Rattle.cat_model.specs.declared.stmt.Stmt.TheVariants.{Connect}
use Rattle.ddl_scripts.specs.{CopyRows.rows_behind, MetaLines.meta_line, MetaLines.unknown}

pub record WorkedExamples : Type 0 where
  pub rows : rows_behind (codes ";\n1\t2\n\\.\nSET") 1 ≡ Ok (record { rows = codes "1\t2\n"; end = 9 })
  pub no_rows : rows_behind (codes "; \t\r\n\\.\n") 1 ≡ Ok (record { rows = []; end = 8 })
  pub cut_short : rows_behind (codes ";\n1\n2") 1 ≡ Ok (record { rows = codes "1\n2\n"; end = 5 })
  pub no_line : rows_behind (codes "; ") 1 ≡ Ok (record { rows = []; end = 2 })
  pub not_whole : rows_behind (codes ";\n\\.x\n\\.") 1 ≡ Ok (record { rows = codes "\\.x\n"; end = 8 })
  pub same_line : rows_behind (codes "; SET") 1 ≡ Err 2
  pub connect : meta_line (codes "\\connect  \"Shop\"") ≡ Ok (Some (Connect (codes "Shop")))
  pub folded : meta_line (codes "\\connect Shop ") ≡ Ok (Some (Connect (codes "shop")))
  pub passed : meta_line (codes "\\restrict 4f2 x") ≡ Ok None
  pub passed_too : meta_line (codes "\\unrestrict") ≡ Ok None
  pub two_names : meta_line (codes "\\connect a b") ≡ unknown
  pub remark : meta_line (codes "\\connect a -- b") ≡ unknown
  pub no_name : meta_line (codes "\\connect") ≡ unknown
  pub other : meta_line (codes "\\restricted") ≡ unknown
  -- what stands for the name is none
  pub empty_name : meta_line (codes "\\connect  \"\"") ≡ Err (record { long = false; at = 10 })
  pub long_name : meta_line (codes "\\connect xxxxxxxxxxxxxxxxxxxxxxxxxxxxxxxxxxxxxxxxxxxxxxxxxxxxxxxxxxxxxxxx") ≡ Err (record { long = true; at = 9 })
