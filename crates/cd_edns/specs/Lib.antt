pub mod Opts
