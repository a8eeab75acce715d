pub use Rattle.ddl_part_laws.specs.Numbers
